-- What decides: beside the instant and the length the settings and the state that arrivals change; no counter and no rebind.
use Rattle.std.specs.Prelude.{◌≡◌, ℕ, Float}
use Rattle.std.proofs.Common.{ap, ◌∙◌}
use Rattle.options.specs.declared.config.DirectionConfig.{DirectionConfig}
use Rattle.steps.specs.Arrival.{arrived_of}
use Rattle.steps.specs.declared.arrival.Arrival.{Arrival}
use Rattle.steps.specs.declared.arrival.ArrivalState.{ArrivalState}
use Rattle.engine.specs.Decide.{after_of, decide_passed_of}
use Rattle.engine.specs.Engine.{state_of, gate_at_of}
use Rattle.engine.specs.declared.engine.ArrivalEngine.{ArrivalEngine}

-- two engines that decide alike
pub record Alike (e f : ArrivalEngine) : Type 0 where
  pub settings : e.cfg ≡ f.cfg
  pub state : state_of e ≡ state_of f

arrival_of : ArrivalEngine → Float → ℕ → Arrival
arrival_of e now len = arrived_of (gate_at_of e.cfg now) e.cfg (state_of e) now len

same_arrival : (e f : ArrivalEngine) (now : Float) (len : ℕ) → Alike e f → arrival_of e now len ≡ arrival_of f now len
unfolding arrival_of
same_arrival e f now len a =
    ap (λ (c : DirectionConfig). arrived_of (gate_at_of c now) c (state_of e) now len) a.settings
    ∙ ap (λ (s : ArrivalState). arrived_of (gate_at_of f.cfg now) f.cfg s now len) a.state

pub decide_alike : (e f : ArrivalEngine) (now : Float) (len : ℕ) → Alike e f → (decide_passed_of e now len).1 ≡ (decide_passed_of f now len).1
unfolding decide_passed_of arrival_of
decide_alike e f now len a = ap (λ (x : Arrival). x.decision) (same_arrival e f now len a)

pub stay_alike : (e f : ArrivalEngine) (now : Float) (len : ℕ) → Alike e f → Alike (decide_passed_of e now len).0 (decide_passed_of f now len).0
unfolding decide_passed_of after_of state_of arrival_of
stay_alike e f now len a = record { settings = a.settings; state = ap (λ (x : Arrival). x.state) (same_arrival e f now len a) }
