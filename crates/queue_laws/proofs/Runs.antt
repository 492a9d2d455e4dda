-- For every list of calls on a queue that was created, or whose creation was refused, each reply is the plain queue's.
use Rattle.std.specs.Prelude.{◌≡◌, refl, true, List, [], ◌∷◌, ℕ, Ok, Err}
use Rattle.std.proofs.Common.{ap, ◌∙◌}
use Rattle.queue.specs.Tables.{Tables}
use Rattle.queue.specs.Refusals.{memory_of}
use Rattle.queue.specs.Calls.{default_width, create_of}
use Rattle.queue.specs.declared.queue.ImpairQueue.{ImpairQueue}
use Rattle.numbers.specs.declared.refusal.Refusal.{Refusal}
use Rattle.queue_laws.specs.Held.{Plain, plain, Call, push, release, drain, next_due, len, is_empty, has_memory, Reply, holds, tells, step, run}
use Rattle.queue_laws.specs.Replies.{answer_to, answers_to}
use Rattle.queue_laws.specs.Laws.Keeps.{Keeps}
use Rattle.queue_laws.specs.Laws.Creation.{create_keeps, refused_keeps, long_memory}
use Rattle.queue_laws.proofs.Agree.{Agree, push_agrees, release_agrees, drain_agrees, due_agrees, len_agrees, empty_agrees}

pub call_agrees : (t : Tables) (q : ImpairQueue) (p : Plain) → Keeps t q p → (c : Call) → Agree (answer_to q t c) (step p c)
unfolding answer_to step
call_agrees t q p k (push due arrival route id duplicated bytes) = push_agrees t q p k due arrival route id duplicated bytes
call_agrees t q p k (release now) = release_agrees t q p k now
call_agrees t q p k drain = drain_agrees t q p k
call_agrees t q p k next_due = due_agrees t q p k
call_agrees t q p k len = record { says = ap holds (len_agrees t q p k); keeps = k }
call_agrees t q p k is_empty = record { says = ap tells (empty_agrees t q p k); keeps = k }
call_agrees t q p k has_memory = record { says = ap tells (long_memory q.width q.cap t k.long); keeps = k }

pub calls_agree : (cs : List Call) (t : Tables) (q : ImpairQueue) (p : Plain) → Keeps t q p → answers_to q t cs ≡ run p cs
unfolding answers_to run
calls_agree [] t q p k = refl
calls_agree (c ∷ cs) t q p k =
    let a = call_agrees t q p k c in
    ap (λ (r : Reply). r ∷ answers_to (answer_to q t c).queue (answer_to q t c).tables cs) a.says
    ∙ ap (λ (l : List Reply). (step p c).reply ∷ l) (calls_agree cs _ _ _ a.keeps)

-- from creation on, whatever stood in the lent memory
pub created_agrees : (cap width : ℕ) (t : Tables) → (create_of cap width t).1 ≡ Ok tt → (cs : List Call) → answers_to (create_of cap width t).0 t cs ≡ run (plain cap width [] 0) cs
created_agrees cap width t made cs = calls_agree cs t (create_of cap width t).0 (plain cap width [] 0) (create_keeps cap width t made)

-- and after a refused creation, which gives a queue of capacity 1 and width 2,048, on any memory that is long enough for it
pub refused_creation_agrees : (cap width : ℕ) (t later : Tables) (e : Refusal) → (create_of cap width t).1 ≡ Err e → memory_of default_width 1 later ≡ true → (cs : List Call)
    → answers_to (create_of cap width t).0 later cs ≡ run (plain 1 default_width [] 0) cs
refused_creation_agrees cap width t later e refused long cs = calls_agree cs later (create_of cap width t).0 (plain 1 default_width [] 0) (refused_keeps cap width t later e refused long)
