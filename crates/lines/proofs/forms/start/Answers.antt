-- A word that names no kind, and one that names no scheme.
use Rattle.std.proofs.Common.{None, rules}
use Rattle.lines.proofs.Naming.{kind_word, scheme_word}
use Rattle.lines.proofs.forms.start.Goals as goal

pub returns-in_err-kind : goal.returns-in_err-kind
returns-in_err-kind c = let unknown = kind_word _ None c.in_err-kind.ensures.value in search rules

pub returns-in_err-scheme : goal.returns-in_err-scheme
returns-in_err-scheme c =
    let kind = kind_word _ _ c.in_ok-kind.ensures.value in
    let unknown = scheme_word _ None c.in_err-scheme.ensures.value in
    search rules
