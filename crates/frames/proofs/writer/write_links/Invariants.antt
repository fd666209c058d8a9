use Rattle.std.proofs.Common.{◌≡◌, ◌++◌, take}
use Rattle.std.specs.List.{flat_map}
use Rattle.frames.specs.Bytes.{link_bytes, placed, Small}
use Rattle.frames.proofs.writer.write_links.Given as goal

abbrev pub invariant-loop-k : goal.invariant-loop-k
invariant-loop-k l = Small (take l.k l.links) × (l.buf ≡ placed (take 10 l.initial.buf ++ flat_map link_bytes (take l.k l.links)) l.initial.buf)
