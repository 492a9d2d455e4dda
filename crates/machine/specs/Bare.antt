-- Calls and answers with their bytes and routes left out: what two lists of calls that are alike in kinds, order, times and lengths have in common.
use Rattle.std.specs.Prelude.{List, [], ◌∷◌, ℕ, length, replicate}
use Rattle.held.specs.Copies.{Copy, copy}
use Rattle.machine.specs.Calls.{Call, arrive, release, rebind, teardown, report, Answer, decided, released, none_due, rebound, tore_down, reported, refused}

-- of the bytes only the length is left
abbrev pub blank : List ℕ → List ℕ
blank bytes = replicate (length bytes) 0

abbrev pub bare_call : Call → Call
bare_call (arrive now bytes route) = arrive now (blank bytes) 0
bare_call (release now) = release now
bare_call (rebind now) = rebind now
bare_call teardown = teardown
bare_call report = report

abbrev pub bare_copy : Copy → Copy
bare_copy c = copy c.due c.seq c.arrival 0 c.copy_id c.length (blank c.bytes)

abbrev pub bare_answer : Answer → Answer
bare_answer (decided d entered overflowed torn) = decided d entered overflowed torn
bare_answer (released c) = released (bare_copy c)
bare_answer none_due = none_due
bare_answer (rebound b) = rebound b
bare_answer (tore_down n) = tore_down n
bare_answer (reported s held torn) = reported s held torn
bare_answer (refused k) = refused k

abbrev pub bare_calls : List Call → List Call
bare_calls [] = []
bare_calls (c ∷ cs) = bare_call c ∷ bare_calls cs

abbrev pub bare_answers : List Answer → List Answer
bare_answers [] = []
bare_answers (a ∷ l) = bare_answer a ∷ bare_answers l
