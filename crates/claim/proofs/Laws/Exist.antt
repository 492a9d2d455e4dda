-- Each call is answered: for any device, memory and arguments there are an answer and tables at exit that the function's contract fits. So every list of calls has a run.
use Rattle.std.specs.Prelude.{◌≡◌, refl, true, List, [], ◌∷◌, ℕ, zero, suc, T, Float, Option, None, Some, Result, Ok, Err}
use Rattle.std.specs.Borrow.{Bor, MutBor}
use Rattle.std.proofs.Common.{sym, ap, subst}
use Rattle.std.specs.Float.{binary64}
use Rattle.std.specs.Float.Ieee.{fits}
use contract.Lifetimes.{Lfts}
use Rattle.numbers.specs.declared.refusal.Refusal.{Refusal}
use Rattle.options.specs.Parse.{parse_of}
use Rattle.options.specs.declared.config.DirectionConfig.{DirectionConfig}
use Rattle.tournament.specs.declared.tree.Tree.{Tree}
use Rattle.tournament.specs.declared.tree.TreeMut.{TreeMut}
use Rattle.queue.specs.Calls.{payload_of}
use Rattle.queue.specs.Tables.{Tables, tables, after, Rows, rows_of}
use Rattle.queue.specs.declared.answers.Queued.{Queued}
use Rattle.queue.specs.declared.rows.Rows.{Rows as SeenRows}
use Rattle.queue.specs.declared.rows.RowsMut.{RowsMut}
use Rattle.machine.specs.Calls.{Call, arrive, release, rebind, teardown, report, Binary64Call, Binary64}
use Rattle.device.specs.Arrive.{arrive_of}
use Rattle.device.specs.Creation.{create_of}
use Rattle.device.specs.Others.{rebind_of, teardown_of, report_of}
use Rattle.device.specs.Release.{release_of}
use Rattle.device.specs.declared.device.Device.{Device}
use Rattle.claim.specs.Replies.{said_of_release}
use Rattle.claim.specs.Runs.{Parses, Creates, Arrives, Releases, Rebinds, TearsDown, Reports, Reads, Says, hands_out, none, refuses, Answered, arrives, releases, rebinds, tears_down, reports, Ran, done, next, arrives_by_value, releases_by_value, rebinds_by_value, tears_by_value, answered_by_value, ByValue}
use Rattle.claim.proofs.Laws.Answers.{answer_to, answers_to}
use Rattle.claim.proofs.Laws.Lent.{arrive_free, release_rows}

-- ---- arguments: of a reference a contract reads the value alone, and that what it was lent stays the same

abbrev lifetimes : (n : ℕ) → Lfts n
lifetimes zero = tt
lifetimes (suc n) = ([], lifetimes n)

abbrev shared : {X : Type 0} → X → Bor X
shared x = record { ref_ptr = (0, 0); now = x }

abbrev unique : {X : Type 0} → X → MutBor X
unique x = record { ref_ptr = (0, 0); ghost_name = 0; now = x }

-- the tables, to be read and to be written
abbrev seen_tree : Tables → Tree
seen_tree t = record { win = shared t.win; dues = shared t.dues; seqs = shared t.seqs }

abbrev lent_tree : Tables → MutBor TreeMut
lent_tree t = unique (record { win = unique t.win; dues = unique t.dues; seqs = unique t.seqs })

abbrev seen_rows : Tables → SeenRows
seen_rows t = record { arrivals = shared t.arrivals; routes = shared t.routes; copy_ids = shared t.copy_ids; lengths = shared t.lengths; store = shared t.store }

abbrev lent_rows : Tables → MutBor RowsMut
lent_rows t = unique (record { arrivals = unique t.arrivals; routes = unique t.routes; copy_ids = unique t.copy_ids; lengths = unique t.lengths; store = unique t.store })

-- ---- calls

pub parses_so : (text : List ℕ) → Parses text (parse_of text)
parses_so text = Parses.called (lifetimes 1) (shared text, tt) (parse_of text) (shared text, tt) refl refl

pub creates_so : (cfg : DirectionConfig) (seed salt cap width : ℕ) (t : Tables) → Creates cfg seed salt cap width t (create_of cfg seed salt cap width t)
creates_so cfg seed salt cap width t =
    Creates.called (lifetimes 3) (cfg, (seed, (salt, (cap, (width, (seen_tree t, (shared t.free, (seen_rows t, tt)))))))) (create_of cfg seed salt cap width t)
    (cfg, (seed, (salt, (cap, (width, (seen_tree t, (shared t.free, (seen_rows t, tt)))))))) refl refl refl refl refl refl refl

-- the tables with this `free`, and with these rows
abbrev with_free : Tables → List ℕ → Tables
with_free t f = tables t.win f t.dues t.seqs t.arrivals t.routes t.copy_ids t.lengths t.store

abbrev with_rows : Tables → Rows → Tables
with_rows t r = tables t.win t.free t.dues t.seqs r.arrivals r.routes r.copy_ids r.lengths r.store

-- the calls by value
arrives_so : (v : Device) (t : Tables) (now : Float) (bytes : List ℕ) (route : ℕ) → T (fits binary64 now)
    → let o = arrive_of v t now bytes route in (x : Arrives v t now bytes route o.gives o.memory) × (arrives_by_value x ≡ true)
arrives_so v t now bytes route fit =
    let o = arrive_of v t now bytes route in
    let same : with_free o.memory t.free ≡ o.memory = sym (ap (with_free o.memory) (arrive_free v t now bytes route)) in
    subst (λ (m : Tables). (x : Arrives v t now bytes route o.gives m) × (arrives_by_value x ≡ true)) same (
      Arrives.called (lifetimes 6) (v, (lent_tree t, (shared t.free, (lent_rows t, (now, (shared bytes, (route, tt))))))) o.gives
          (v, (lent_tree o.memory, (shared t.free, (lent_rows o.memory, (now, (shared bytes, (route, tt)))))))
          fit refl refl refl refl refl (ap (after o.gives) same, ((refl, refl, refl), (refl, refl, refl, refl, refl))),
      refl,
    )

releases_so : (v : Device) (t : Tables) (now : Float) → let o = release_of v t now in (x : Releases v t now o.gives o.memory) × (releases_by_value x ≡ true)
releases_so v t now =
    let o = release_of v t now in
    let same : with_rows o.memory (rows_of t) ≡ o.memory = sym (ap (with_rows o.memory) (release_rows v t now)) in
    subst (λ (m : Tables). (x : Releases v t now o.gives m) × (releases_by_value x ≡ true)) same (
      Releases.called (lifetimes 4) (v, (lent_tree t, (unique t.free, (seen_rows t, (now, tt))))) o.gives
          (v, (lent_tree o.memory, (unique o.memory.free, (seen_rows t, (now, tt))))) refl refl refl (ap (after o.gives) same, (refl, refl, refl)),
      refl,
    )

rebinds_so : (v : Device) (now : Float) → (x : Rebinds v now (rebind_of v now)) × (rebinds_by_value x ≡ true)
rebinds_so v now = (Rebinds.called tt (v, (now, tt)) (rebind_of v now) (v, (now, tt)) refl refl refl, refl)

tears_so : (v : Device) → (x : TearsDown v (teardown_of v)) × (tears_by_value x ≡ true)
tears_so v = (TearsDown.called tt (v, tt) (teardown_of v) (v, tt) refl refl, refl)

reports_so : (v : Device) → Reports v (report_of v)
reports_so v = Reports.called (lifetimes 1) (shared v, tt) (report_of v) (shared v, tt) refl refl

reads_so : (store : List ℕ) (width slot len : ℕ) → Reads store width slot len (payload_of width store slot len)
reads_so store width slot len = Reads.called (lifetimes 1) (shared store, (width, (slot, (len, tt)))) (shared (payload_of width store slot len)) (shared store, (width, (slot, (len, tt)))) refl refl refl refl refl

says_so : (width : ℕ) (store : List ℕ) (a : Result (Option Queued) Refusal) → Says width store a (said_of_release width store a)
says_so width store (Ok (Some c)) = hands_out (reads_so store width c.slot c.length)
says_so width store (Ok None) = none
says_so width store (Err e) = refuses

answered_so : (v : Device) (t : Tables) (c : Call) → Binary64Call c
    → (x : Answered v t c (answer_to v t c).reply (answer_to v t c).device (answer_to v t c).tables) × (answered_by_value x ≡ true)
unfolding answer_to
answered_so v t (arrive now bytes route) fit = let x = arrives_so v t now bytes route fit in (arrives x.0, x.1)
answered_so v t (release now) fit = let x = releases_so v t now in (releases x.0 (says_so _ _ _), x.1)
answered_so v t (rebind now) fit = let x = rebinds_so v now in (rebinds x.0, x.1)
answered_so v t teardown fit = let x = tears_so v in (tears_down x.0, x.1)
answered_so v t report fit = (reports (reports_so v), refl)

pub ran_by_value : (v : Device) (t : Tables) (cs : List Call) → Binary64 cs → (x : Ran v t cs (answers_to v t cs)) × ByValue x
unfolding answers_to
ran_by_value v t [] fit = (done, tt)
ran_by_value v t (c ∷ cs) fit =
    let x = answered_so v t c fit.0 in
    let rest = ran_by_value (answer_to v t c).device (answer_to v t c).tables cs fit.1 in
    (next x.0 rest.0, (x.1, rest.1))

pub ran_so : (v : Device) (t : Tables) (cs : List Call) → Binary64 cs → Ran v t cs (answers_to v t cs)
ran_so v t cs fit = (ran_by_value v t cs fit).0
