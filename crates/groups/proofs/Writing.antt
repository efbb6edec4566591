-- The listing, one axis more at a time: what the loops of repeat_devices and write_devices keep (`Filled`, `Writing`), with the law that begins
-- each, its step and its end. Assumes nothing.
use Prim.Native.Nat.{ℕ, suc, ◌+◌, ◌-◌, ◌*◌, ◌/◌, ◌%◌, ◌<◌, ◌≤◌}
use mathlib.Core.Path.{◌≡◌, refl, sym, ap, ap₂, ◌∙◌, subst}
use mathlib.Core.Logic.{inl}
use mathlib.Core.List.{List, [], ◌∷◌, ◌++◌}
use native.Mathlib.Nat.{mul_comm, zero-mul, zero-add, mod-lt, mod-eq_of_lt, mod-eq-sub-mod, div-eq_of_lt, div-eq-sub-div, le-mul_of_pos_right}
use native.Mathlib.Omega.{arith}
use lib.ListN.{length, get_or, set, take, drop, length-set, length-append, length-drop, drop_of_length-le, take-append-drop, get_or-append}
use lib.Seq.{drop_at, drop-cons, drop-drop, drop-set-lt}
use Rattle.rules.specs.Lists.{tab, product, In, Distinct}
use Rattle.rules.specs.Mesh.{devices, span}
use Rattle.laws.proofs.Lists.{length-tab, get_or-tab, tab-cong}
use Rattle.laws.proofs.Positions.{span-append}
use Rattle.laws.proofs.Buffers.{number-coords}
use Rattle.laws.proofs.Fronts.{Filled, part-tab, next-part}
use Rattle.mesh.proofs.Sizes.{axis-bounds}
use Rattle.mesh.proofs.Positions.{span_pos, member-fits, member-front, distinct-drop, in-drop}
use Rattle.groups.specs.Ordering.{along, repeated, IsAxisOrder, Repeats}

-- ---- entries again and again

-- an entry that is written
filled_at : {f : ℕ → ℕ} {l out : List ℕ} {t : ℕ} → Filled f l out t → (k : ℕ) → k < t → get_or out k 0 ≡ f k
filled_at {f} {l} {out} {t} g k h =
    ap (λ (o : List ℕ). get_or o k 0) g.front ∙ get_or-append (tab t f) (drop t l) 0 k (omega (arith, length-tab t f)) ∙ get_or-tab t k f 0 h

first-filled : (f : ℕ → ℕ) (l : List ℕ) → 0 < length l → f 0 ≡ 0 → Filled f (set l 0 0) (set l 0 0) 1
first-filled f [] h e = absurd (omega arith)
first-filled f (a ∷ l) h e = record { few = omega arith; front = ap (λ (b : ℕ). b ∷ l) (sym e); size = refl }

module _ (out : List ℕ) (count stride : ℕ) where
  repeated-first : (p : ℕ) → p < count → get_or out p 0 ≡ repeated out count stride p
  repeated-first p h = rw (div-eq_of_lt h, mod-eq_of_lt h, zero-mul stride) (sym (zero-add (get_or out p 0)))

  -- the first entries are their own first time
  pub repeating : count ≤ length out → Filled (repeated out count stride) out out count
  repeating h = record {
    few = h;
    front = sym (take-append-drop count out) ∙ ap (λ (l : List ℕ). l ++ drop count out)
        (part-tab 0 out 0 count (omega arith) ∙ tab-cong count (λ t. get_or out (0 + t) 0) (repeated out count stride) (λ p l.
        ap (λ (k : ℕ). get_or out k 0) (zero-add p) ∙ repeated-first p l));
    size = refl;
  }

  -- one entry more, by the one that stands `count` places before it
  pub repeated-next : {now : List ℕ} {p : ℕ} → Filled (repeated out count stride) out now p → 0 < count → count ≤ p
      → get_or now (p - count) 0 + stride ≡ repeated out count stride p
  repeated-next {p = p} g h l =
      let before : repeated out count stride (p - count) + stride ≡ repeated out count stride p =
      rw (div-eq-sub-div h l, mod-eq-sub-mod l, next-part ((p - count) / count) stride) (omega arith) in
      ap (λ (d : ℕ). d + stride) (filled_at g (p - count) (omega arith)) ∙ before

-- ---- one axis more

-- the devices along the axes from i on are written
pub record Writing (mesh axes old out : List ℕ) (count i : ℕ) : Type 0 where
  pub within : i ≤ length axes
  pub counted : count ≡ span mesh (drop i axes)
  pub written : Filled (along mesh (drop i axes)) old out count

-- one axis more, of n devices that are s apart: what the turn asks, and what it leaves
pub record Turn (mesh axes old out : List ℕ) (count i n s : ℕ) : Type 0 where
  pub few : n * count ≤ devices mesh
  pub repeats : Repeats out count (n * count) s
  pub next : (new : List ℕ) → new ≡ tab (n * count) (repeated out count s) ++ drop (n * count) out
      → Writing mesh axes old new (n * count) (i - 1)

module _ (mesh axes old : List ℕ) (r : IsAxisOrder mesh axes (length old)) where
  -- device 0 alone
  pub writing : (i : ℕ) → i ≡ length axes → Writing mesh axes (set old 0 0) (set old 0 0) 1 i
  writing i e =
      let none : drop i axes ≡ [] = drop_of_length-le axes {i = i} (omega (arith, e)) in
      record {
        within = omega (arith, e);
        counted = rw none refl;
        written = first-filled (along mesh (drop i axes)) old (omega (arith, r.fits.devices_pos, r.enough))
            (rw none (number-coords mesh 0 r.fits.devices_pos));
      }

  span-few : (i : ℕ) → span mesh (drop i axes) ≤ devices mesh
  span-few i =
      let s : ℕ = span mesh (drop i axes) in
      let t : ℕ = span mesh (take i axes) in
      let e : s * t ≡ devices mesh =
      mul_comm s t ∙ sym (span-append mesh (take i axes) (drop i axes)) ∙ ap (span mesh) (take-append-drop i axes) ∙ r.whole in
      omega (arith, le-mul_of_pos_right s (span_pos mesh r.fits (take i axes)), e)

  module _ {out : List ℕ} {count i : ℕ} (g : Writing mesh axes (set old 0 0) out count i) (h : 0 < i) (a n s : ℕ)
      (ea : a ≡ get_or axes (i - 1) 0) (en : n ≡ get_or mesh a 1) (es : s ≡ product (drop (a + 1) mesh)) where
    tail : drop (i - 1) axes ≡ a ∷ drop i axes
    tail =
        let u : suc (i - 1) ≡ i = omega arith in
        rw (drop-cons axes (i - 1) 0 (omega (arith, g.within)), ← ea, u) refl

    counts : n * count ≡ span mesh (drop (i - 1) axes)
    counts = rw (tail, en, g.counted) refl

    count_few : n * count ≤ devices mesh
    count_few = rw counts (span-few (i - 1))

    count_pos : 0 < count
    count_pos = rw g.counted (span_pos mesh r.fits (drop i axes))

    front : (p : ℕ) → p < n * count → repeated out count s p ≡ along mesh (drop (i - 1) axes) p
    front p l =
        let d : Distinct (a ∷ drop i axes) = subst Distinct tail (distinct-drop (i - 1) axes r.list.once) in
        let lt : a < length mesh = r.list.below a (in-drop (i - 1) axes a (subst (In a) (sym tail) (inl refl))) in
        rw (filled_at g.written (p % count) (mod-lt p count_pos), es, g.counted, tail)
        (sym (member-front mesh r.fits (drop i axes) a p lt d.0))

    repeats : Repeats out count (n * count) s
    repeats = record {
      some = count_pos;
      more = omega (arith, le-mul_of_pos_right count (axis-bounds mesh r.fits a).size_pos, mul_comm count (get_or mesh a 1), ap (λ (k : ℕ). k * count) en);
      room = omega (arith, count_few, r.enough, g.written.size, length-set old 0 0);
      few = λ p l. omega (
        arith,
        front p l,
        member-fits mesh r.fits (drop (i - 1) axes) p (omega (arith, counts)),
        r.fits.devices_few,
      );
    }

    one_more : (new : List ℕ) → new ≡ tab (n * count) (repeated out count s) ++ drop (n * count) out
        → Writing mesh axes (set old 0 0) new (n * count) (i - 1)
    one_more new e =
        let began : List ℕ = set old 0 0 in
        let m : ℕ = n * count in
        let f : ℕ → ℕ = along mesh (drop (i - 1) axes) in
        let k : ℕ = m - count in
        let c : m ≡ count + k = omega (arith, repeats.more) in
        let rest : drop m out ≡ drop m began =
        rw c (ap (drop (count + k)) g.written.front
        ∙ sym (drop-drop k count (tab count (along mesh (drop i axes)) ++ drop count began))
        ∙ ap (drop k) (drop_at (tab count (along mesh (drop i axes))) (drop count began) count (length-tab count (along mesh (drop i axes))))
        ∙ drop-drop k count began) in
        let same : new ≡ tab m f ++ drop m began = e ∙ ap₂ (λ (x y : List ℕ). x ++ y) (tab-cong m (repeated out count s) f front) rest in
        record {
          within = omega (arith, g.within);
          counted = counts;
          written = record {
            few = omega (arith, length-set old 0 0, count_few, r.enough);
            front = same;
            size = ap length same ∙ length-append (tab m f) (drop m began)
                ∙ omega (arith, length-tab m f, length-drop m began, length-set old 0 0, count_few, r.enough);
          };
        }

    pub turn : Turn mesh axes (set old 0 0) out count i n s
    turn = record { few = count_few; repeats = repeats; next = one_more }

  pub all-written : {out : List ℕ} {count i : ℕ} → Writing mesh axes (set old 0 0) out count i → i ≤ 0
      → out ≡ tab (devices mesh) (along mesh axes) ++ drop (devices mesh) old
  all-written {count = count} {i = i} g h =
      let z : i ≡ 0 = omega arith in
      let d : drop i axes ≡ axes = ap (λ (j : ℕ). drop j axes) z in
      let e : count ≡ devices mesh = g.counted ∙ ap (span mesh) d ∙ r.whole in
      rw (← e)
      (g.written.front
      ∙ ap₂ (λ (L rest : List ℕ). tab count (along mesh L) ++ rest) d (drop-set-lt count old 0 0 (omega (arith, e, r.fits.devices_pos))))
