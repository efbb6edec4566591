-- Laws of the records of a file, one behind the other: what is read where one stands (`repeat-copied`, `plain_copied`), and the loop over all (`Walk`).
-- Assumes nothing.
use Rattle.std.specs.Prelude.{Result, Ok, Err, IsOk}
use Prim.Native.Nat.{ℕ, zero, suc, ◌+◌, ◌*◌, ◌-◌, ◌≤◌, ◌<◌}
use mathlib.Core.Path.{◌≡◌, refl, sym, ap, ap₂, ◌∙◌, subst}
use mathlib.Core.List.{List, [], ◌∷◌, ◌++◌, map, append_assoc, append-nil}
use native.Mathlib.Omega.{arith}
use lib.ListN.{length, get_or, length-append}
use lib.Seq.{sets}
use Rattle.rules.specs.Limits.{most_axes, most_bytes}
use Rattle.rules.specs.Collectives.{Step, all_slice, all_gather, all_reduce, all_to_all, reduce_scatter}
use Rattle.rules.specs.Refusals.{Judged, accept, ◌>>◌}
use Rattle.rules.specs.PlanFile.{Read, step_at, Record, plain, repeat, kind_byte}
use Rattle.types.specs.Types.{step_of}
use Rattle.types.specs.declared.Refusal.{Refusal}
use Rattle.types.specs.declared.Step as code
use Rattle.laws.proofs.Judging.{never, accept-inj}
use Rattle.reader.specs.Reading.{reading}
use Rattle.reader.specs.declared.Read as reader
use Rattle.records.specs.Records.{known, step_bytes, given_bytes, steps_bytes}
use Rattle.records.specs.Writing.{judge_counts}
use Rattle.records.specs.RoundTrip.{AllRanked, ShortLists, ShortStep, AllShort}
use Rattle.records.specs.Forms.{record_bytes, record_of, records_bytes}
use Rattle.records.proofs.Places.{From, from-length, from_next, from_byte, from_second, from_at}
use Rattle.records.proofs.Lists.{read, step_lists, step_from}
use Rattle.records.proofs.Given.{kind-first}
use Rattle.records.proofs.Written.{given-some}
use Rattle.records.proofs.Short.{short-counts}
use Rattle.records.proofs.Reread.{record-length}
use Rattle.encode.specs.Putting.{Put, farthest}
use Rattle.encode.proofs.Puts.{put-none, put_both}
use Rattle.decode.specs.Decoding.{Stands, SomeStands, Copied, Copies, records_in, StepsStand}

-- ---- where a record stands

short-one : (l : List ℕ) → length l ≤ most_axes → ShortLists (l ∷ [])
short-one l h zero = h
short-one l h (suc d) = omega arith

module _ {file : List ℕ} {at rank : ℕ} where
  stands_from : {g : Record} (s : Stands file at rank g) → From at file (given_bytes (known g) ++ s.rest)
  stands_from s = record { is = s.is; inside = s.inside }

  pub stands-inside : {g : Record} → Stands file at rank g → at < length file
  stands-inside {g} s =
      omega (arith, from-length at file _ (stands_from s), length-append (given_bytes (known g)) s.rest, given-some (known g))

  plain-kind : (t : Step) → Stands file at rank (plain t) → get_or file at 0 ≡ 9 → ⊥
  unfolding given_bytes
  plain-kind t s nine =
      let h = kind-first t in
      let b : get_or file at 0 ≡ kind_byte (plain t) =
      from_byte at file (kind_byte (plain t)) (h.0 ++ s.rest) (subst (λ (l : List ℕ). From at file (l ++ s.rest)) h.1 (stands_from s)) in
      omega (arith, h.2, b, nine)

  repeat-inside : (g : Record) → Stands file at rank g → get_or file at 0 ≡ 9 → at + 3 ≤ length file
  unfolding given_bytes
  repeat-inside (plain t) s nine = absurd (plain-kind t s nine)
  repeat-inside (repeat count number) s nine = omega (arith, from-length at file _ (stands_from s))

  pub repeat-bytes : (g : Record) → Stands file at rank g → get_or file at 0 ≡ 9 → (at + 1 < length file) × (at + 2 < length file)
  repeat-bytes g s nine = let h : at + 3 ≤ length file = repeat-inside g s nine in (omega (arith, h), omega (arith, h))

  pub repeat-copied : {entry exit : List ℕ} {to r : ℕ} → get_or file at 0 ≡ 9
      → Put entry exit to r (record_of (repeat (get_or file (at + 1) 0) (get_or file (at + 2) 0))) → Copies file at rank entry exit to (at + 3)
  unfolding given_bytes
  repeat-copied nine p (plain t) s = absurd (plain-kind t s nine)
  repeat-copied {entry} {exit} {to} nine p (repeat count number) s =
      let f : From at file (9 ∷ count ∷ number ∷ s.rest) = stands_from s in
      let c : get_or file (at + 1) 0 ≡ count = from_second at file 9 count (number ∷ s.rest) f in
      let n : get_or file (at + 2) 0 ≡ number = from_at at file (9 ∷ count ∷ number ∷ s.rest) f 2 in
      record { is = p.is ∙ ap₂ (λ (x y : ℕ). sets entry to (record_of (repeat x y))) c n; ends = refl }

  -- a plain step is read
  step-stands : (t : Step) (k : ℕ) → Stands file at rank (plain t) → step_at most_axes rank k file at ≡ accept (read t (at + length (step_bytes t)))
  unfolding given_bytes
  step-stands t k s =
      step_from most_axes rank k file at t s.rest s.ranked (stands_from s)
      ∙ ap (λ (j : Judged (Unit {0})). ◌>>◌ j (accept (read t (at + length (step_bytes t))))) (fine t s.short)
    where
      fine : (t : Step) → ShortStep t → judge_counts most_axes (step_lists t) ≡ accept tt
      fine (all_slice Ss) h = short-counts Ss h
      fine (all_gather Gs) h = short-counts Gs h
      fine (all_reduce L) h = short-counts (L ∷ []) (short-one L h)
      fine (all_to_all source target L) h = short-counts (L ∷ []) (short-one L h)
      fine (reduce_scatter Ss) h = short-counts Ss h

  module _ (k : ℕ) (other : get_or file at 0 ≡ 9 → ⊥) where
    pub never-refused : (r : Result (reader.Read code.Step) Refusal) → reading (step_of rank) r ≡ step_at most_axes rank k file at
        → (g : Record) → Stands file at rank g → IsOk r
    unfolding given_bytes
    never-refused (Ok x) e g s = refl
    never-refused (Err x) e (plain t) s = absurd (never (e ∙ step-stands t k s))
    never-refused (Err x) e (repeat count number) s = absurd (other (from_byte at file 9 (count ∷ number ∷ s.rest) (stands_from s)))

    pub plain_copied : (r : Result (reader.Read code.Step) Refusal) (x : reader.Read code.Step) → reading (step_of rank) r ≡ step_at most_axes rank k file at
        → r ≡ Ok x → {entry exit : List ℕ} {to q : ℕ} → Put entry exit to q (record_of (plain (step_of rank x.value))) → Copies file at rank entry exit to x.next
    unfolding given_bytes
    plain_copied r x e h {entry} {exit} {to} p (plain t) s =
        let same : ◌≡◌ {A = Read Step} (record { value = step_of rank x.value; next = x.next }) (read t (at + length (step_bytes t))) =
        accept-inj (sym (ap (reading (step_of rank)) h) ∙ e ∙ step-stands t k s) in
        record { is = p.is ∙ ap (λ (y : Read Step). sets entry to (record_of (plain y.value))) same; ends = ap (λ (y : Read Step). y.next) same }
    plain_copied r x e h p (repeat count number) s = absurd (other (from_byte at file 9 (count ∷ number ∷ s.rest) (stands_from s)))

-- ---- all records

records-joined : (l m : List Record) → records_bytes (l ++ m) ≡ records_bytes l ++ records_bytes m
unfolding records_bytes
records-joined [] m = refl
records-joined (g ∷ l) m = ap (λ (b : List ℕ). record_of g ++ b) (records-joined l m) ∙ sym (append_assoc (record_of g) (records_bytes l) (records_bytes m))

records-one : (g : Record) → records_bytes (g ∷ []) ≡ record_of g
unfolding records_bytes
records-one g = append-nil (record_of g)

-- records are copied up to `to`, and the others stand from `place` on
pub record Walk (out₀ out file : List ℕ) (place rank to : ℕ) : Type 0 where
  pub done : List Record
  pub todo : List Record
  pub all : done ++ todo ≡ records_in file
  pub here : From place file (steps_bytes (map known todo))
  pub ranked : AllRanked rank (map known todo)
  pub short : AllShort todo
  pub early : to ≤ record_bytes * place
  pub put : Put out₀ out 0 to (records_bytes done)

pub walk_start : (out : List ℕ) {file : List ℕ} {at rank : ℕ} → StepsStand file at rank → Walk out out file at rank 0
unfolding records_bytes
walk_start out {file} s = record {
  done = [];
  todo = records_in file;
  all = refl;
  here = record { is = s.is; inside = s.inside };
  ranked = s.ranked;
  short = s.short;
  early = omega arith;
  put = put-none out 0;
}

module _ {out₀ out file : List ℕ} {place rank to : ℕ} where
  -- the next one
  pub walk-stands : Walk out₀ out file place rank to → place < length file → SomeStands file place rank
  unfolding steps_bytes
  walk-stands w h = go w.todo w.here w.ranked w.short
    where
      go : (todo : List Record) → From place file (steps_bytes (map known todo)) → AllRanked rank (map known todo) → AllShort todo
          → SomeStands file place rank
      go [] f r s = absurd (omega (arith, h, from-length place file _ f))
      go (g ∷ todo) f r s =
          record { one = g; stands = record { rest = steps_bytes (map known todo); is = f.is; inside = f.inside; ranked = r.0; short = s.0 } }

  pub walk-few : Walk out₀ out file place rank to → length file ≤ most_bytes → to + record_bytes ≤ farthest
  walk-few w h = omega (arith, h, w.early, w.here.inside)

  pub walk_step : {out' : List ℕ} {place' : ℕ} → Walk out₀ out file place rank to → place < length file
      → Copies file place rank out out' to place' → Walk out₀ out' file place' rank (to + record_bytes) × (length file - place' < length file - place)
  unfolding steps_bytes
  walk_step {out'} {place'} w h copies = go w.todo w.all w.here w.ranked w.short
    where
      go : (todo : List Record) → w.done ++ todo ≡ records_in file → From place file (steps_bytes (map known todo)) → AllRanked rank (map known todo) → AllShort todo
          → Walk out₀ out' file place' rank (to + record_bytes) × (length file - place' < length file - place)
      go [] a f r s = absurd (omega (arith, h, from-length place file _ f))
      go (g ∷ todo) a f r s =
          let bytes : List ℕ = given_bytes (known g) in
          let c : Copied out out' to place place' g =
          copies g (record { rest = steps_bytes (map known todo); is = f.is; inside = f.inside; ranked = r.0; short = s.0 }) in
          let further : From place' file (steps_bytes (map known todo)) =
          subst (λ (k : ℕ). From k file (steps_bytes (map known todo))) (sym c.ends) (from_next place file bytes (steps_bytes (map known todo)) f) in
          let p : Put out out' to (to + record_bytes) (record_of g) = record { is = c.is; next = omega (arith, record-length g) } in
          let some : 1 ≤ length bytes = given-some (known g) in (
            record {
              done = w.done ++ g ∷ [];
              todo = todo;
              all = append_assoc w.done (g ∷ []) todo ∙ a;
              here = further;
              ranked = r.1;
              short = s.1;
              early = omega (arith, w.early, c.ends, some);
              put = subst (Put out₀ out' 0 (to + record_bytes))
                  (ap (λ (l : List ℕ). records_bytes w.done ++ l) (sym (records-one g)) ∙ sym (records-joined w.done (g ∷ []))) (put_both w.put p);
            },
            omega (arith, c.ends, some, further.inside, h),
          )

  pub walk-done : Walk out₀ out file place rank to → length file ≤ place → Put out₀ out 0 to (records_bytes (records_in file))
  unfolding steps_bytes
  walk-done w h = go w.todo w.all w.here
    where
      go : (todo : List Record) → w.done ++ todo ≡ records_in file → From place file (steps_bytes (map known todo)) → Put out₀ out 0 to (records_bytes (records_in file))
      go [] a f = subst (λ (l : List Record). Put out₀ out 0 to (records_bytes l)) (sym (append-nil w.done) ∙ a) w.put
      go (g ∷ todo) a f =
          absurd (omega (arith, h, from-length place file _ f, length-append (given_bytes (known g)) (steps_bytes (map known todo)), given-some (known g)))
