-- Which arrive call a released copy came with (document 01, "The plain machine"): seqs count the copies that entered, so the copies of all answers so far,
-- in their order, have the seqs 0, 1, 2 and so on.
use Rattle.std.specs.Prelude.{◌≡◌, List, [], ◌∷◌, ◌++◌, ℕ, zero, suc, Float, length, replicate}
use Rattle.machine.specs.Calls.{Call, arrive, release, rebind, teardown, report, Answer, decided, released, none_due, rebound, tore_down, reported, refused}

-- what an arrive call brought
pub record Brought : Type 0 where
  pub instant : Float
  pub bytes : List ℕ
  pub route : ℕ

abbrev pub brought : Float → List ℕ → ℕ → Brought
brought now b r = record { instant = now; bytes = b; route = r }

-- the copies that entered in an arrive call: the answer says how many
abbrev pub entered_in : Float → List ℕ → ℕ → Answer → List Brought
entered_in now bytes route (decided d entered overflowed torn) = replicate entered (brought now bytes route)
entered_in now bytes route (released c) = []
entered_in now bytes route none_due = []
entered_in now bytes route (rebound b) = []
entered_in now bytes route (tore_down n) = []
entered_in now bytes route (reported s held torn) = []
entered_in now bytes route (refused k) = []

abbrev pub entered_by : Call → Answer → List Brought
entered_by (arrive now bytes route) a = entered_in now bytes route a
entered_by (release now) a = []
entered_by (rebind now) a = []
entered_by teardown a = []
entered_by report a = []

-- x stands at that place of a list, counted from 0
abbrev pub At : {A : Type 0} → ℕ → List A → A → Type 0
At n [] x = ⊥
At zero (y ∷ l) x = x ≡ y
At (suc n) (y ∷ l) x = At n l x

-- the copy that an answer hands out has instant, bytes and route of the arrive call in which a copy entered with its seq, and the length of those bytes
abbrev pub HandsOut : List Brought → Answer → Type 0
HandsOut came (decided d entered overflowed torn) = Unit {0}
HandsOut came (released c) = At c.seq came (brought c.arrival c.bytes c.route) × (c.length ≡ length c.bytes)
HandsOut came none_due = Unit {0}
HandsOut came (rebound b) = Unit {0}
HandsOut came (tore_down n) = Unit {0}
HandsOut came (reported s held torn) = Unit {0}
HandsOut came (refused k) = Unit {0}

-- the same for each answer of a list, given what had entered before it
abbrev pub EachOwn : List Brought → List Call → List Answer → Type 0
EachOwn came [] [] = Unit {0}
EachOwn came [] (a ∷ l) = ⊥
EachOwn came (c ∷ cs) [] = ⊥
EachOwn came (c ∷ cs) (a ∷ l) = HandsOut came a × EachOwn (came ++ entered_by c a) cs l
