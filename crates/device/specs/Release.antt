-- A release: 23, 21, 25; then the queue's least copy that is due leaves and is accounted (document 01, "The plain machine").
use Rattle.std.specs.Prelude.{true, cond, leb, Float, Option, None, Some, Result, Ok, Err}
use Rattle.std.specs.Float.{binary64}
use Rattle.std.specs.Float.Ieee.{sub}
use Rattle.numbers.specs.Checks.{unless}
use Rattle.numbers.specs.Instant.{is_instant_of}
use Rattle.numbers.specs.declared.refusal.Refusal.{Refusal}
use Rattle.numbers.specs.declared.refusal.Refusal.TheVariants as refusal
use Rattle.accounts.specs.Calls.{on_send_of}
use Rattle.queue.specs.Calls.{release_of as queue_release_of}
use Rattle.queue.specs.Refusals.{memory_of}
use Rattle.queue.specs.Tables.{Tables, After, after}
use Rattle.queue.specs.declared.answers.Queued.{Queued}
use Rattle.queue.specs.declared.queue.ImpairQueue.{ImpairQueue}
use Rattle.device.specs.Parts.{Handed, with_queue, with_accounts}
use Rattle.device.specs.Refusals.{call_refusal}
use Rattle.device.specs.declared.device.Device.{Device}

abbrev pub not_released : Device → Refusal → Handed (Option Queued)
not_released v e = (v, Err e)

-- the answer once the accounts have answered; what they refuse was altered: 26
unfoldable pub send_answer_of : Result (Unit {0}) Refusal → Queued → Result (Option Queued) Refusal
send_answer_of (Ok u) c = Ok (Some c)
send_answer_of (Err k) c = Err refusal.Keeping

-- the copy is accounted with its latency
unfoldable pub accounted_of : Device → Queued → Float → Handed (Option Queued)
accounted_of v c now =
    let s = on_send_of v.accounts c.length (sub binary64 now c.arrival_ms) in
    (with_accounts v s.0, send_answer_of s.1 c)

-- what follows once the queue has answered; a queue that refuses was altered, and so was a length above the width: 26
unfoldable pub sending_by : Result (Option Queued) Refusal → Device → Float → Handed (Option Queued)
sending_by (Ok (Some c)) v now = cond (leb c.length v.queue.width) (accounted_of v c now) (not_released v refusal.Keeping)
sending_by (Ok None) v now = (v, Ok None)
sending_by (Err e) v now = not_released v refusal.Keeping

abbrev pub sending_of : Device → ImpairQueue × Result (Option Queued) Refusal → Float → Handed (Option Queued)
sending_of v l now = sending_by l.1 (with_queue v l.0) now

abbrev pub sent_in : Device → After (ImpairQueue × Result (Option Queued) Refusal) → Float → After (Handed (Option Queued))
sent_in v l now = after (sending_of v l.gives now) l.memory

abbrev pub release_refusal : Device → Tables → Float → Result (Unit {0}) Refusal
release_refusal v t now = call_refusal v (memory_of v.queue.width v.queue.cap t) (is_instant_of now) true

unfoldable pub release_of : Device → Tables → Float → After (Handed (Option Queued))
release_of v t now =
    unless (release_refusal v t now) (sent_in v (queue_release_of v.queue t now) now) (λ e. after (not_released v e) t)
