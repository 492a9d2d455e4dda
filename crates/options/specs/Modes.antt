-- The mode, and refusals 20 and 31 to 33: each mode has options that the other has not.
use Rattle.std.specs.Prelude.{cond, Result, Ok, Err, List, ℕ, ltb}
use Rattle.std.specs.Float.Ieee.{lt}
use Rattle.numbers.specs.Whole.{whole}
use Rattle.numbers.specs.declared.refusal.Refusal.{Refusal}
use Rattle.numbers.specs.declared.refusal.Refusal.TheVariants as refusal
use Rattle.values.specs.Bytes.{bytes, same}
use Rattle.options.specs.declared.config.DirectionConfig.{DirectionConfig}
use Rattle.options.specs.declared.mode.Mode.{Mode}
use Rattle.options.specs.declared.mode.Mode.TheVariants.{Udp, Tcp}

abbrev pub parse_mode_of : List ℕ → Result Mode Refusal
parse_mode_of v = cond (same v (bytes "udp")) (Ok Udp) (cond (same v (bytes "tcp")) (Ok Tcp) (Err refusal.Mode))

-- datagrams are not killed; only datagrams change address, are reordered or duplicated, which is tried in this order
abbrev pub other_mode_of : Mode → DirectionConfig → Result (Unit {0}) Refusal
other_mode_of Udp d = cond (ltb 0 d.tcp_kill_count) (Err refusal.KillUnderUdp) (Ok tt)
other_mode_of Tcp d =
    cond (ltb 0 d.nat_change_every_ms) (Err refusal.NatChangeUnderTcp)
    (cond (lt (whole 0) d.reorder_p) (Err refusal.ReorderUnderTcp)
    (cond (lt (whole 0) d.duplicate_p) (Err refusal.DuplicateUnderTcp) (Ok tt)))
