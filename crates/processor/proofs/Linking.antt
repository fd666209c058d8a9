-- The numbers of a frame's links, by the places that the searches answer.
use Rattle.std.proofs.Common.{◌≡◌, ℕ, eqb, List, length, None, Option, sym, ap, ◌∙◌}
use Rattle.std.specs.List.{find, position, range_with_len}
use Rattle.refusals.specs.declared.refusal.Refusal.TheVariants.{Link, Own}
use Rattle.refusals.proofs.Firsts.{first_find, first_position}
use Rattle.processor.specs.Steps.{after}
use Rattle.processor.specs.Chains.{unless_at, is_wrong, not_own, linked}

-- where no number is wrong, the place of the own number decides
pub linked_by : (n own : ℕ) (ps : List ℕ) (o : Option ℕ) → find (is_wrong n ps) (range_with_len 0 (length ps)) ≡ None → position (λ p. eqb p own) ps ≡ o → unless_at Own o ≡ linked n own ps
linked_by n own ps o wrong at =
    let no_wrong = sym (first_find (is_wrong n ps) (length ps)) ∙ wrong in
    let place = sym (first_position (λ p. eqb p own) ps 0) ∙ at in
    sym (ap (λ w. after (unless_at Link w) (λ _. not_own own ps)) no_wrong ∙ ap (unless_at Own) place)
