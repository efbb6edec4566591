-- Repeats that are open, in four places: one more (`one-more`), one less (`one-less`). An outermost step that is done, and the innermost block that is
-- read: what follows, test by test. Assumes nothing.
use Prim.Native.Nat.{ℕ, zero, suc, ◌+◌, ◌-◌, ◌*◌, ◌≤◌, ◌<◌}
use mathlib.Core.Path.{◌≡◌, refl, sym, ap, ap₂, ◌∙◌, subst}
use mathlib.Core.Logic.{◌≢◌}
use mathlib.Core.Bool.{Bool, true, false}
use mathlib.Core.List.{List, [], ◌∷◌}
use native.Mathlib.Omega.{arith}
use borrow.Author.Tests.{le-leb, lt-leb}
use lib.ListN.{length, drop, get_or}
use lib.Dec.{leb}
use Rattle.std.specs.Prelude.{map, Option, Some, None, Ok, Err}
use Rattle.rules.specs.Limits.{most_run}
use Rattle.rules.specs.Refusals.{accept, refuse, ◌>>◌, need_at}
use Rattle.rules.specs.PlanFile.{same_sharding}
use Rattle.types.specs.Answers.{refused_with}
use Rattle.types.specs.Types.{sharding_of}
use Rattle.types.specs.declared.Refusal.{Refusal}
use Rattle.units.specs.Units as units
use Rattle.units.specs.Sound.{Framed}
use Rattle.units.proofs.Sounds.{framed-more}
use Rattle.pieces.specs.declared.Frame.{Frame}
use Rattle.pieces.specs.declared.Standing.{Standing}
use Rattle.pieces.specs.Held.{frame_of, leading, open_of, first_of, frames_of, Closes, step_done, ClosedTo}

-- the first place tells whether a repeat is open
pub none-open : (places : List (Option Frame)) → get_or places 0 None ≡ None → leading places ≡ []
none-open [] e = refl
none-open (None ∷ places) e = refl
none-open (Some f ∷ places) e = absurd (some-none (sym e))
  where
    some-none : {f : Frame} → ◌≡◌ {A = Option Frame} None (Some f) → ⊥
    some-none q = cc

pub first-open : (places : List (Option Frame)) {f : Frame} → get_or places 0 None ≡ Some f → leading places ≡ f ∷ leading (drop 1 places)
first-open [] e = absurd (some-none e)
  where
    some-none : {f : Frame} → ◌≡◌ {A = Option Frame} None (Some f) → ⊥
    some-none q = cc
first-open (None ∷ places) e = absurd (some-none e)
  where
    some-none : {f : Frame} → ◌≡◌ {A = Option Frame} None (Some f) → ⊥
    some-none q = cc
first-open (Some g ∷ places) e = ap (λ (h : Frame). h ∷ leading places) (some-inj e)
  where
    some-inj : {f h : Frame} → ◌≡◌ {A = Option Frame} (Some f) (Some h) → f ≡ h
    some-inj q = cc

-- the last place is empty while one more may be opened
pub one-more : (a b c d : Option Frame) → length (leading (a ∷ b ∷ c ∷ d ∷ [])) < 4 → leading (a ∷ b ∷ c ∷ []) ≡ leading (a ∷ b ∷ c ∷ d ∷ [])
one-more None b c d l = refl
one-more (Some f) None c d l = refl
one-more (Some f) (Some g) None d l = refl
one-more (Some f) (Some g) (Some h) None l = refl
one-more (Some f) (Some g) (Some h) (Some i) l = absurd (omega arith)

-- none stands behind the last place
pub one-less : (a b c : Option Frame) → leading (a ∷ b ∷ c ∷ []) ≡ leading (a ∷ b ∷ c ∷ None ∷ [])
one-less None b c = refl
one-less (Some f) None c = refl
one-less (Some f) (Some g) None = refl
one-less (Some f) (Some g) (Some h) = refl

-- ---- an outermost step is done

module _ (q : Standing) (outer : first_of q.frames ≡ None) (mesh sizes : List ℕ) (rank k left : ℕ) where
  no_frames : frames_of rank q.frames ≡ []
  no_frames = ap (map (frame_of rank)) (none-open q.frames.0 outer)

  done : step_done mesh sizes rank q k left
      ≡ ◌>>◌ (need_at k (leb q.ran most_run) 43) (accept (units.outermost mesh sizes left q.ran q.number q.largest (sharding_of rank q.sharding)))
  unfolding units.after_step
  done = ap (λ (fs : List units.Frame). units.after_step mesh sizes q.number q.largest (sharding_of rank q.sharding) fs k left q.ran) no_frames

  pub over : most_run < q.ran → refuse 43 k ≡ step_done mesh sizes rank q k left
  over l = sym (done ∙ rw (lt-leb q.ran most_run l) refl)

  module _ (few : q.ran ≤ most_run) where
    passed : step_done mesh sizes rank q k left ≡ accept (units.outermost mesh sizes left q.ran q.number q.largest (sharding_of rank q.sharding))
    passed = done ∙ rw (le-leb q.ran most_run few) refl

    pub all_done : left ≡ 0 → accept (units.at_end mesh sizes q.largest (sharding_of rank q.sharding)) ≡ step_done mesh sizes rank q k left
    all_done e = sym (passed ∙ ap (λ (n : ℕ). accept (units.outermost mesh sizes n q.ran q.number q.largest (sharding_of rank q.sharding))) e)

    pub next-outer : left ≢ 0 → accept (units.in_steps mesh sizes (record {
      frames = frames_of rank q.frames;
      behind = left - 1;
      ran = q.ran;
      number = q.number;
      largest = q.largest;
      sharding = sharding_of rank q.sharding;
    })) ≡ step_done mesh sizes rank q k left
    next-outer n =
        let e : left ≡ suc (left - 1) = omega (arith, n) in
        sym (passed ∙ ap (λ (n : ℕ). accept (units.outermost mesh sizes n q.ran q.number q.largest (sharding_of rank q.sharding))) e
        ∙ ap (λ (fs : List units.Frame). accept (units.in_steps mesh sizes (record {
          frames = fs;
          behind = left - 1;
          ran = q.ran;
          number = q.number;
          largest = q.largest;
          sharding = sharding_of rank q.sharding;
        }))) (sym no_frames))

-- ---- the innermost block is read

module _ (rank : ℕ) (q : Standing) (f : Frame) (fs : List Frame) (inner : open_of q.frames ≡ f ∷ fs) where
  abbrev around : List units.Frame
  around = map (frame_of rank) fs

  pub inner-frames : frames_of rank q.frames ≡ frame_of rank f ∷ around
  inner-frames = ap (map (frame_of rank)) inner

  abbrev same : Bool
  same = same_sharding (sharding_of rank q.sharding) (sharding_of rank f.sharding)

  closing : (mesh sizes : List ℕ) (k : ℕ) → step_done mesh sizes rank q k 0
      ≡ ◌>>◌ (need_at f.number same 41) (◌>>◌ (need_at f.number (leb (f.count * q.ran) most_run) 43)
      (units.after_step mesh sizes q.number q.largest (sharding_of rank q.sharding) around f.number f.behind (f.ran + f.count * q.ran)))
  unfolding units.after_step
  closing mesh sizes k = ap (λ (l : List units.Frame). units.after_step mesh sizes q.number q.largest (sharding_of rank q.sharding) l k 0 q.ran) inner-frames

  pub changed : same ≡ false → (mesh sizes : List ℕ) (k : ℕ) → step_done mesh sizes rank q k 0 ≡ refuse 41 f.number
  changed e mesh sizes k = closing mesh sizes k ∙ rw e refl

  module _ (e : same ≡ true) where
    pub too_many : most_run < f.count * q.ran → (mesh sizes : List ℕ) (k : ℕ) → step_done mesh sizes rank q k 0 ≡ refuse 43 f.number
    too_many l mesh sizes k = closing mesh sizes k ∙ rw (e, lt-leb (f.count * q.ran) most_run l) refl

    pub closes : f.count * q.ran ≤ most_run → (mesh sizes : List ℕ) (k : ℕ) → step_done mesh sizes rank q k 0
        ≡ units.after_step mesh sizes q.number q.largest (sharding_of rank q.sharding) around f.number f.behind (f.ran + f.count * q.ran)
    closes l mesh sizes k = closing mesh sizes k ∙ rw (e, le-leb (f.count * q.ran) most_run l) refl

  pub framed-first : Closes rank q → (f.number < q.number) × (f.ran ≤ f.number * most_run) × Framed f.number around
  framed-first c = subst (Framed q.number) inner-frames c.framed

  pub framed-rest : Closes rank q → Framed q.number around
  framed-rest c = let g = framed-first c in framed-more f.number q.number around (omega (arith, g.0)) g.2

-- ---- blocks that end with a step, one after the other

pub record Closing (rank : ℕ) (q₀ : Standing) (k₀ left₀ : ℕ) (q : Standing) (k left : ℕ) : Type 0 where
  pub closes : Closes rank q
  pub same : (mesh sizes : List ℕ) → step_done mesh sizes rank q₀ k₀ left₀ ≡ step_done mesh sizes rank q k left

module _ {rank : ℕ} {q₀ : Standing} {k₀ left₀ : ℕ} {q : Standing} {k left : ℕ} (g : Closing rank q₀ k₀ left₀ q k left) where
  module _ {f : Frame} (inner : first_of q.frames ≡ Some f) where
    -- another step of the same list
    pub next-inner : left ≢ 0 → (mesh sizes : List ℕ) → accept (units.in_steps mesh sizes (record {
      frames = frames_of rank q.frames;
      behind = left - 1;
      ran = q.ran;
      number = q.number;
      largest = q.largest;
      sharding = sharding_of rank q.sharding;
    })) ≡ step_done mesh sizes rank q₀ k₀ left₀
    unfolding units.after_step
    next-inner n mesh sizes =
        let e : left ≡ suc (left - 1) = omega (arith, n) in
        let i = inner-frames rank q f _ (first-open q.frames.0 inner) in
        sym (g.same mesh sizes
        ∙ ap₂ (λ (l : ℕ) (fs : List units.Frame). units.after_step mesh sizes q.number q.largest (sharding_of rank q.sharding) fs k l q.ran) e i
        ∙ ap (λ (fs : List units.Frame). accept (units.in_steps mesh sizes (record {
          frames = fs;
          behind = left - 1;
          ran = q.ran;
          number = q.number;
          largest = q.largest;
          sharding = sharding_of rank q.sharding;
        }))) (sym i))

  module _ (none : left ≡ 0) (f : Frame) where
    pub closed_on : (r : Standing) → ClosedTo rank q f (Ok r) → Closing rank q₀ k₀ left₀ r f.number f.behind
    closed_on r d = record { closes = d.2; same = λ mesh sizes. g.same mesh sizes ∙ ap (step_done mesh sizes rank q k) none ∙ d.0 mesh sizes k }

    pub closed-stops : (x : Refusal) → ClosedTo rank q f (Err x) → (mesh sizes : List ℕ) → refused_with x ≡ step_done mesh sizes rank q₀ k₀ left₀
    closed-stops x d mesh sizes = sym (g.same mesh sizes ∙ ap (step_done mesh sizes rank q k) none ∙ d mesh sizes k)
