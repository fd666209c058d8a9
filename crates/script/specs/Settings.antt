-- The lines before the start.
use Rattle.std.specs.Prelude.{List, [], ◌∷◌, ◌++◌, Some, None, vec_items, Option}
use Rattle.plans.specs.declared.plan.Appointment.{Appointment}
use Rattle.lines.specs.Grammar.{LineRead, bench_line, item_line, start_line, set_line, turn_line, advance_line, seal_line, open_line, inject_line, deliver_line, decide_line}
use Rattle.plans.specs.declared.plan.Sizes.{Sizes}
use Rattle.script.specs.declared.setting.Setting.{Setting}
use Rattle.script.specs.declared.setting.Heard.{Heard}
use Rattle.script.specs.declared.setting.Heard.TheVariants.{Kept, OutOfOrder, Start}

-- the sizes, once they are set, and the items so far
pub record Set : Type 0 where
  pub sizes : Option Sizes
  pub agenda : List Appointment

abbrev pub setting_of : Setting → Set
setting_of s = record { sizes = s.sizes; agenda = vec_items s.agenda }

-- before the first line
abbrev pub unset : Set
unset = record { sizes = None; agenda = [] }

-- first comes `bench`, once
abbrev pub sets_sizes : Option Sizes → Sizes → Set → Heard × Set
sets_sizes None z s = (Kept, record { sizes = Some z; agenda = s.agenda })
sets_sizes (Some y) z s = (OutOfOrder, s)

-- then any number of `item`
abbrev pub adds_item : Option Sizes → Appointment → Set → Heard × Set
adds_item None a s = (OutOfOrder, s)
adds_item (Some z) a s = (Kept, record { sizes = s.sizes; agenda = s.agenda ++ (a ∷ []) })

-- and then `start`
abbrev pub starts : Option Sizes → (Sizes → Heard) → Set → Heard × Set
starts None begin s = (OutOfOrder, s)
starts (Some z) begin s = (begin z, s)

abbrev pub heard_line : LineRead → Set → Heard × Set
heard_line (bench_line n f d e) s = sets_sizes s.sizes (record { n = n; f = f; d = d; e = e }) s
heard_line (item_line sender reading) s = adds_item s.sizes (record { sender = sender; reading = reading }) s
heard_line (start_line kind scheme) s = starts s.sizes (λ z. Start z kind scheme) s
heard_line (set_line p offset) s = (OutOfOrder, s)
heard_line (turn_line p) s = (OutOfOrder, s)
heard_line (advance_line k) s = (OutOfOrder, s)
heard_line (seal_line p text) s = (OutOfOrder, s)
heard_line (open_line p item value) s = (OutOfOrder, s)
heard_line (inject_line from to bytes) s = (OutOfOrder, s)
heard_line (deliver_line flight p) s = (OutOfOrder, s)
heard_line (decide_line p item) s = (OutOfOrder, s)

-- a line before the start, None where it is unreadable
abbrev pub heard : Option LineRead → Set → Heard × Set
heard None s = (OutOfOrder, s)
heard (Some line) s = heard_line line s
