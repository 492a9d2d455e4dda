-- The split at the line feed tells where the line ends.
use Rattle.values.specs.Laws.Scan.{split_some, split_none}
use Rattle.script.specs.Lines.{known_of}
use Rattle.script.proofs.Cutting.{cut_told, whole_told}
use Rattle.script.proofs.line.Line.cut.Goals as goal

pub returns-in-Some : goal.returns-in-Some
returns-in-Some c =
    let parts = split_some 10 c.args.chunk.now (c.in-Some.bytes.now, c.in-Some.field-0-1.now) c.in-Some.ensures in
    cut_told (known_of c.args.self.now) (known_of c.append.new.self) c.in-Some.bytes.now c.args.chunk.now parts.0 parts.1 c.append.ensures

pub returns-in-None : goal.returns-in-None
returns-in-None c = whole_told (known_of c.args.self.now) (known_of c.append-in-None.new.self) c.args.chunk.now (split_none 10 c.args.chunk.now c.in-None.ensures) c.append-in-None.ensures
