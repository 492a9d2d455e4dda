-- The values are those of the arguments that are left; each argument leaves fewer.
use Rattle.std.proofs.Common.{◌≡◌, ◌++◌, length}
use Rattle.std.specs.Iterator.Adapters.{zip_first, zip_second}
use Rattle.std.specs.Slice.Iter.{iter_rest}
use Rattle.values.specs.Bytes.{same}
use Rattle.args.specs.Left.{args_left, values_left}
use Rattle.args.proofs.ReadsGathered.{values_read}
use Rattle.args.proofs.key_values.ValuesIterator.next.Given as goal

abbrev pub invariant-loop-byte : goal.invariant-loop-byte
invariant-loop-byte l =
    let bytes = iter_rest (zip_first l.byte-iterator) in
    let wanted = iter_rest (zip_second l.byte-iterator) in
    (length bytes ≡ length wanted) × (same (iter_rest (zip_first l.initial.byte-iterator)) (iter_rest (zip_second l.initial.byte-iterator)) ≡ same bytes wanted)

abbrev pub invariant-args-2 : goal.invariant-args-2
invariant-args-2 l = values_left l.initial.self ≡ values_read (l.self.prefix.now ++ l.self.name.now) (args_left l.self.args)

abbrev pub decreases-args-2 : goal.decreases-args-2
decreases-args-2 l = length (args_left l.self.args)
