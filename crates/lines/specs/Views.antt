-- What a line that was read says. Assumes nothing.
use Rattle.std.specs.Prelude.{vec_items}
use Rattle.lines.specs.declared.line.Line.{Line}
use Rattle.lines.specs.declared.line.Line.TheVariants.{Bench, Item, Start, Set, Turn, Advance, Seal, Open, Inject, Deliver, Decide}
use Rattle.lines.specs.Grammar.{LineRead, bench_line, item_line, start_line, set_line, turn_line, advance_line, seal_line, open_line, inject_line, deliver_line, decide_line}

abbrev pub viewed : Line → LineRead
viewed (Bench n f d e) = bench_line n f d e
viewed (Item sender reading) = item_line sender reading
viewed (Start kind scheme) = start_line kind scheme
viewed (Set processor offset) = set_line processor offset
viewed (Turn processor) = turn_line processor
viewed (Advance ticks) = advance_line ticks
viewed (Seal processor text) = seal_line processor (vec_items text)
viewed (Open processor item value) = open_line processor item value
viewed (Inject from to bytes) = inject_line from to (vec_items bytes)
viewed (Deliver flight processor) = deliver_line flight processor
viewed (Decide processor item) = decide_line processor item
