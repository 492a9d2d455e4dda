-- Every run of the functions of crates/queue replies as the plain queue does: see specs/Theorem.antt for what a run is.
use Rattle.std.specs.Prelude.{◌≡◌, refl, Bool, true, List, [], ◌∷◌, ℕ, Float, Option, Result, Ok, Err}
use Rattle.std.proofs.Common.{sym, ap, ◌∙◌}
use Rattle.held.specs.Copies.{copy}
use Rattle.numbers.specs.declared.refusal.Refusal.{Refusal}
use Rattle.queue.specs.Tables.{Tables, After, after}
use Rattle.queue.specs.Refusals.{room_of, memory_of}
use Rattle.queue.specs.Calls.{Handed, default_width, create_of, push_of, release_of, drain_of, next_due_of, len_of, is_empty_of, payload_of}
use Rattle.queue.specs.declared.queue.ImpairQueue.{ImpairQueue}
use Rattle.queue.specs.declared.answers.Entered.{Entered}
use Rattle.queue.specs.declared.answers.Queued.{Queued}
use Rattle.queue_laws.specs.Held.{Call, Reply, holds, tells, released, plain, run}
use Rattle.queue_laws.specs.Replies.{said_of_push, said_of_release, said_of_drain, said_of_due, said_by_push, said_by_release, said_by_drain, answer_to, answers_to}
use Rattle.queue_laws.proofs.Runs.{created_agrees, refused_creation_agrees}
use Rattle.queue_laws.specs.Theorem.{Creates, Pushes, Releases, Drains, AsksDue, AsksLen, AsksEmpty, AsksMemory, Reads, Says, hands_out, none, refuses, Ran, done, pushes, releases, drains, asks_due, asks_len, asks_empty, asks_memory}

creates_is : {cap width : ℕ} {t : Tables} {r : Handed (Unit {0})} → Creates cap width t r → r ≡ create_of cap width t
creates_is (Creates.called κs a r s ec ew et h) = h ∙ (λ i. create_of (ec i) (ew i) (et i))

pushes_is : {q : ImpairQueue} {t : Tables} {due arrival : Float} {route id : ℕ} {duplicated : Bool} {bytes : List ℕ} {r : Handed Entered} {t' : Tables} → Pushes q t due arrival route id duplicated bytes r t' → after r t' ≡ push_of q t due arrival route id duplicated bytes
pushes_is (Pushes.called κs a r s eq et ep eb h) =
    h.0 ∙ (λ i. push_of (eq i) (et i) (ep i).due_ms (ep i).arrival_ms (ep i).route (ep i).copy_id (ep i).duplicated (eb i))

releases_is : {q : ImpairQueue} {t : Tables} {instant : Float} {r : Handed (Option Queued)} {t' : Tables} → Releases q t instant r t' → after r t' ≡ release_of q t instant
releases_is (Releases.called κs a r s eq et ei h) = h.0 ∙ (λ i. release_of (eq i) (et i) (ei i))

reads_is : {store : List ℕ} {width slot len : ℕ} {bytes : List ℕ} → Reads store width slot len bytes → bytes ≡ payload_of width store slot len
reads_is (Reads.called κs a r s es ew et el h) = h ∙ (λ i. payload_of (ew i) (es i) (et i) (el i))

says_is : {width : ℕ} {store : List ℕ} {a : Result (Option Queued) Refusal} {r : Reply} → Says width store a r → r ≡ said_of_release width store a
says_is (hands_out {c} h) = ap (λ (b : List ℕ). released (copy c.due_ms c.seq c.arrival_ms c.route c.copy_id c.length b)) (reads_is h)
says_is none = refl
says_is refuses = refl

drains_is : {q : ImpairQueue} {r : Handed ℕ} → Drains q r → r ≡ drain_of q
drains_is (Drains.called κs a r s eq h) = h ∙ (λ i. drain_of (eq i))

asks_due_is : {q : ImpairQueue} {t : Tables} {r : Result (Option Float) Refusal} → AsksDue q t r → r ≡ next_due_of q t.win t.dues
asks_due_is (AsksDue.called κs a r s eq ew ed h) = h ∙ (λ i. next_due_of (eq i) (ew i) (ed i))

asks_len_is : {q : ImpairQueue} {n : ℕ} → AsksLen q n → n ≡ len_of q
asks_len_is (AsksLen.called κs a r s eq h) = h ∙ (λ i. len_of (eq i))

asks_empty_is : {q : ImpairQueue} {b : Bool} → AsksEmpty q b → b ≡ is_empty_of q
asks_empty_is (AsksEmpty.called κs a r s eq h) = h ∙ (λ i. is_empty_of (eq i))

asks_memory_is : {q : ImpairQueue} {t : Tables} {b : Bool} → AsksMemory q t b → b ≡ memory_of q.width q.cap t
unfolding memory_of
asks_memory_is (AsksMemory.called κs a r s eq es h) = h ∙ (λ i. room_of (eq i).width (eq i).cap (es i))

ran_is : {q : ImpairQueue} {t : Tables} {cs : List Call} {rs : List Reply} → Ran q t cs rs → rs ≡ answers_to q t cs
unfolding answers_to answer_to
ran_is done = refl
ran_is (pushes {r = r} {cs = cs} c k) =
    ap (λ (l : List Reply). said_of_push r.1 ∷ l) (ran_is k)
    ∙ ap (λ (o : After (Handed Entered)). (said_by_push o).reply ∷ answers_to (said_by_push o).queue (said_by_push o).tables cs) (pushes_is c)
ran_is (releases {t' = t'} {r = r} {cs = cs} c a k) =
    (λ i. says_is a i ∷ ran_is k i)
    ∙ ap (λ (o : After (Handed (Option Queued))). (said_by_release o).reply ∷ answers_to (said_by_release o).queue (said_by_release o).tables cs) (releases_is c)
ran_is (drains {t = t} {r = r} {cs = cs} c k) =
    ap (λ (l : List Reply). said_of_drain r.1 ∷ l) (ran_is k)
    ∙ ap (λ (o : Handed ℕ). (said_by_drain t o).reply ∷ answers_to (said_by_drain t o).queue (said_by_drain t o).tables cs) (drains_is c)
ran_is (asks_due c k) = λ i. said_of_due (asks_due_is c i) ∷ ran_is k i
ran_is (asks_len c k) = λ i. holds (asks_len_is c i) ∷ ran_is k i
ran_is (asks_empty c k) = λ i. tells (asks_empty_is c i) ∷ ran_is k i
ran_is (asks_memory c k) = λ i. tells (asks_memory_is c i) ∷ ran_is k i

-- every run on a queue that was created replies as the plain queue of that capacity and width does
pub theorem : {cap width : ℕ} {t : Tables} {r : Handed (Unit {0})} → Creates cap width t r → r.1 ≡ Ok tt → (cs : List Call) (rs : List Reply) → Ran r.0 t cs rs → rs ≡ run (plain cap width [] 0) cs
theorem {cap} {width} {t} {r} c made cs rs ran =
    ran_is ran
    ∙ ap (λ (x : Handed (Unit {0})). answers_to x.0 t cs) (creates_is c)
    ∙ created_agrees cap width t (ap (λ (x : Handed (Unit {0})). x.1) (sym (creates_is c)) ∙ made) cs

-- and every run on the queue of a refused creation as the plain queue of capacity 1 and width 2,048, over any memory that is long enough for it
pub refused_theorem : {cap width : ℕ} {t : Tables} {r : Handed (Unit {0})} {e : Refusal} → Creates cap width t r → r.1 ≡ Err e → (later : Tables) → memory_of default_width 1 later ≡ true
    → (cs : List Call) (rs : List Reply) → Ran r.0 later cs rs → rs ≡ run (plain 1 default_width [] 0) cs
refused_theorem {cap} {width} {t} {r} {e} c not_made later long cs rs ran =
    ran_is ran
    ∙ ap (λ (x : Handed (Unit {0})). answers_to x.0 later cs) (creates_is c)
    ∙ refused_creation_agrees cap width t later e (ap (λ (x : Handed (Unit {0})). x.1) (sym (creates_is c)) ∙ not_made) long cs
