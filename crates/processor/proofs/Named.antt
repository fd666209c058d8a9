-- Whom the links so far name.
use Rattle.std.proofs.Common.{◌≡◌, ℕ, ◌||◌, eqb, List, [], ◌∷◌, refl, ap}
use Rattle.std.specs.List.{list_any}
use Rattle.frames.specs.declared.link.Link.{Link}
use Rattle.frames.specs.Texts.{numbers_of}
use Rattle.processor.specs.Naming.{is_in}

pub in_links : (p : ℕ) (ls : List Link) → list_any (λ l. eqb l.processor p) ls ≡ is_in (numbers_of ls) p
in_links p [] = refl
in_links p (l ∷ ls) = ap (λ b. eqb l.processor p || b) (in_links p ls)
