use Rattle.std.proofs.Common.{sym, ◌∙◌}
use Rattle.frames.specs.Views.{count_of}
use Rattle.frames.proofs.Linking.{length_links_of}
use Rattle.frames.proofs.frame.Frame.count.Goals as goal

pub returns-clause-count : goal.returns-clause-count
returns-clause-count c = let bs = c.args.self.now.links.now in c.parts.ensures.count ∙ sym (length_links_of (count_of bs) bs)
