-- What follows each decision (document 01, "The plain machine"): a drop changes nothing, a reset tears the held copies down, and the copies of all else enter.
use Rattle.std.specs.Prelude.{Bool, List, ℕ, Float}
use Rattle.steps.specs.declared.decision.Decision.{Decision}
use Rattle.steps.specs.declared.decision.Decision.TheVariants.{DropRandom, DropGe, DropMtu, DropBlackout, DropKillHold, Enqueue, KillRst}
use Rattle.queue.specs.Calls.{Handed, push_of}
use Rattle.queue.specs.Tables.{Tables, After, after}
use Rattle.queue.specs.declared.queue.ImpairQueue.{ImpairQueue}
use Rattle.admission.specs.Admitted.{untouched, tallied_of, torn_of}
use Rattle.admission.specs.declared.admitted.Admitted.{Admitted}

-- the copies of a packet, pushed and counted
unfoldable pub copies_of : ImpairQueue → Tables → Bool → Float → Float → ℕ → List ℕ → After (Handed Admitted)
copies_of q t duplicated due now route bytes =
    let o = push_of q t due now route 0 duplicated bytes in
    after (tallied_of o.gives duplicated) o.memory

unfoldable pub follow_of : ImpairQueue → Tables → Decision → Float → ℕ → List ℕ → After (Handed Admitted)
follow_of q t DropRandom now route bytes = after (untouched q) t
follow_of q t DropGe now route bytes = after (untouched q) t
follow_of q t DropMtu now route bytes = after (untouched q) t
follow_of q t DropBlackout now route bytes = after (untouched q) t
follow_of q t DropKillHold now route bytes = after (untouched q) t
follow_of q t (Enqueue due duplicated) now route bytes = copies_of q t duplicated due now route bytes
follow_of q t KillRst now route bytes = after (torn_of q) t
