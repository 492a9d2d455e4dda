use Rattle.std.proofs.Common.{◌∙◌, rules}
use Rattle.script.proofs.Cutting.{appended_to}
use Rattle.script.proofs.line.Line.append.Goals as goal

pub returns : goal.returns
returns c = appended_to c.args.self.now.buffer.items c.args.bytes.now c.deref_mut.result.now c.copy_from_slice.new.self _ _ _ _ c.args.self.now.length c.min-fitting.result c.args.self.now.buffer.len c.args.self.now.beyond c.further_all-self.result
    c.deref_mut.ensures.value (c.deref_mut.ensures.len ∙ c.args.self.now.whole) c.args.self.now.whole c.args.self.now.fits (search rules) c.copy_from_slice.ensures.after c.split_at.ensures.front c.split_at.ensures.back c.further_all-self.ensures
