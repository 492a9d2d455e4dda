-- A device that was created matches the fresh machine of what the host named, and the device of a refused creation that of `refused_creation`.
use Rattle.std.proofs.Math.Path.{◌≡◌, refl}
use Rattle.std.proofs.Common.{sym, ap, ◌∙◌, inl, arith}
use Rattle.std.proofs.Math.Logic.{inr}
use Rattle.std.specs.Prelude.{◌⊎◌, Bool, not, ◌&&◌, [], ℕ, ◌<◌, ◌≤◌, Result, Ok, Err}
use Rattle.std.proofs.Math.Bool.{true, false}
use Rattle.std.proofs.Math.Dec.{leb}
use Rattle.draws.specs.Mix.{direction_seed_of}
use Rattle.numbers.specs.Laws.NotNan.{cond_has}
use Rattle.numbers.specs.Laws.Limits.{width_passes}
use Rattle.numbers.specs.Limits.{max_capacity, min_width, max_width, is_width_of}
use Rattle.numbers.specs.declared.refusal.Refusal.{Refusal}
use Rattle.numbers.specs.declared.refusal.Refusal.TheVariants as refusal
use Rattle.options.specs.Config.{default_direction}
use Rattle.judgement.specs.Settings.{is_settings_of}
use Rattle.judgement.specs.Laws.Parsed.{default_judged}
use Rattle.options.specs.declared.config.DirectionConfig.{DirectionConfig}
use Rattle.engine.specs.Calls.{new_engine_of}
use Rattle.engine.specs.Engine.{fresh_of}
use Rattle.engine.specs.Laws.Sound.{fresh_sound}
use Rattle.engine.specs.declared.engine.ArrivalEngine.{ArrivalEngine}
use Rattle.queue.specs.Calls.{Handed as HandedQueue, default_width, create_of as queue_create_of}
use Rattle.queue.specs.Refusals.{memory_of}
use Rattle.queue.specs.Tables.{Tables}
use Rattle.queue.specs.declared.queue.ImpairQueue.{ImpairQueue}
use Rattle.queue_laws.specs.Held.{plain}
use Rattle.queue_laws.specs.Laws.Creation.{nothing_held, create_keeps, create_made as queue_made, create_width as queue_width}
use Rattle.queue_laws.specs.Laws.Keeps.{Keeps, Long}
use Rattle.machine.specs.Machine.{Creation, host_creation, fresh_machine}
use Rattle.device.specs.Creation.{not_created, queued_by, queued_on, created_by, create_of}
use Rattle.device.specs.Parts.{Handed}
use Rattle.claim.specs.Creations.{new_device, refused_creation, CreationRefusal, CreationEnds}
use Rattle.claim.proofs.Laws.Matches.{Matches}

module _ (cfg : DirectionConfig) (seed salt cap width : ℕ) (t : Tables) where
  -- what a creation that is not refused gives
  abbrev Fresh : Handed (Unit {0}) → Type 0
  Fresh c = c.1 ≡ Ok tt → Matches c.0 t (fresh_machine (host_creation cfg seed salt cap width))

  not_created_lem : (e : Refusal) → Fresh (not_created e)
  not_created_lem e h = cc

  queued : is_settings_of cfg ≡ true → (a : Result (Unit {0}) Refusal) (q : ImpairQueue) → (a ≡ Ok tt → Keeps t q (plain cap width [] 0))
      → Fresh (queued_by (fresh_of cfg (direction_seed_of seed salt)) a q)
  unfolding queued_by fresh_machine
  queued settings (Ok u) q keeps h = record { engine = refl; accounts = refl; torn = refl; queue = keeps refl; sound = fresh_sound cfg (direction_seed_of seed salt) settings; short = λ c k. absurd k }
  queued settings (Err e) q keeps h = not_created_lem e h

  -- a creation that was not refused
  pub create_matches : (create_of cfg seed salt cap width t).1 ≡ Ok tt → Matches (create_of cfg seed salt cap width t).0 t (fresh_machine (host_creation cfg seed salt cap width))
  unfolding create_of created_by new_engine_of
  create_matches = go (is_settings_of cfg) refl
    where
      go : (b : Bool) → is_settings_of cfg ≡ b → Fresh (create_of cfg seed salt cap width t)
      go true e = rw e (queued e (queue_create_of cap width t).1 (queue_create_of cap width t).0 (create_keeps cap width t))
      go false e = rw e (not_created_lem refusal.Settings)

  -- a creation with settings that 29 lets through, a capacity and a width in range and memory that is long enough is not refused
  pub create_made : is_settings_of cfg ≡ true → 0 < cap → cap ≤ max_capacity → is_width_of width ≡ true → Long width cap t → (create_of cfg seed salt cap width t).1 ≡ Ok tt
  unfolding create_of created_by new_engine_of queued_by
  create_made settings low high wide long = rw (settings, queue_made cap width t low high wide long)

  -- and one with a width out of range is refused by 30, over any memory
  pub create_refuses_width : is_settings_of cfg ≡ true → 0 < cap → cap ≤ max_capacity → (width < min_width) ⊎ (max_width < width) → create_of cfg seed salt cap width t ≡ not_created refusal.Width
  unfolding create_of created_by new_engine_of queued_by
  create_refuses_width settings low high out = rw (settings, queue_width cap width t low high out)

  -- ---- what a creation ends in

  refused_ends : (e : Refusal) → CreationRefusal e → CreationEnds (host_creation cfg seed salt cap width) (not_created e)
  refused_ends e r = inr (e, r, refl)

  pub create_ends : CreationEnds (host_creation cfg seed salt cap width) (create_of cfg seed salt cap width t)
  unfolding create_of created_by new_engine_of queued_by queue_create_of
  create_ends =
      let e = fresh_of cfg (direction_seed_of seed salt) in
      cond_has (λ (c : ArrivalEngine × Result (Unit {0}) Refusal). Ends (created_by c.1 c.0 (queue_create_of cap width t))) (is_settings_of cfg)
      (cond_has (λ (q : HandedQueue (Unit {0})). Ends (queued_on e q)) (not (leb 1 cap && leb cap max_capacity)) (refused_ends refusal.Capacity (inr (inl refl)))
      (cond_has (λ (q : HandedQueue (Unit {0})). Ends (queued_on e q)) (not (is_width_of width)) (refused_ends refusal.Width (inr (inr (inl refl))))
      (cond_has (λ (q : HandedQueue (Unit {0})). Ends (queued_on e q)) (not (memory_of width cap t)) (refused_ends refusal.Memory (inr (inr (inr refl)))) (inl refl))))
      (refused_ends refusal.Settings (inl refl))
    where
      Ends : Handed (Unit {0}) → Type 0
      Ends = CreationEnds (host_creation cfg seed salt cap width)

-- the device of a refused creation
pub refused_device : (o : Creation) (r : Handed (Unit {0})) (e : Refusal) → CreationEnds o r → r.1 ≡ Err e → r.0 ≡ new_device refused_creation
refused_device o r e (inl made) refused =
    let z : Ok tt ≡ Err e = ap (λ (c : Handed (Unit {0})). c.1) (sym made) ∙ refused in
    cc
refused_device o r e (inr (k, by, is)) refused = ap (λ (c : Handed (Unit {0})). c.0) is

-- it matches the fresh machine of its own making, over memory that is long enough for capacity 1 and slots of 2,048 bytes
pub refused_matches : (t : Tables) → Long refused_creation.width refused_creation.capacity t → Matches (new_device refused_creation) t (fresh_machine refused_creation)
unfolding fresh_machine
refused_matches t long =
    record {
      engine = refl;
      accounts = refl;
      torn = refl;
      queue = nothing_held 1 default_width t 0 (omega arith) (omega arith) (width_passes default_width (omega arith) (omega arith)) long (omega arith);
      sound = fresh_sound default_direction 0 default_judged;
      short = λ c k. absurd k;
    }
