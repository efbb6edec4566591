-- The calls: their tests together, the listing by place where one refuses and where all pass (`refuses`, `lists`), and the two promises from it
-- (`plain-promised`, `order-promised`), for an accepted listing is a rearrangement. Assumes nothing.
use Rattle.std.specs.Prelude.{Result, Ok, Err}
use Prim.Native.Nat.{ℕ, ◌<◌, ◌≤◌}
use mathlib.Core.Path.{◌≡◌, refl, sym, ap, ap₂, ◌∙◌}
use mathlib.Core.Bool.{Bool, false, not}
use mathlib.Core.List.{List, [], ◌++◌, map}
use native.Mathlib.Omega.{arith}
use lib.ListN.{length, get_or, take, drop, length-append}
use lib.Seq.{take_at, drop_at}
use lib.Dec.{leb, leb→le, lit<, lit≤}
use Rattle.rules.specs.Lists.{tab}
use Rattle.rules.specs.Mesh.{devices, plain_order, listing, places_listed, OnMesh, Rearrangement}
use Rattle.rules.specs.Limits.{most_axes, most_devices}
use Rattle.rules.specs.Refusals.{Judged, accept, refuse, ◌>>◌, need}
use Rattle.types.specs.Answers.{refused_with, judged}
use Rattle.rules.specs.PlanFile.{axes_allowed, judge_sizes, judge_axes, same, rearranges, order_allowed}
use Rattle.rules.specs.Calls.{groups_by, groups_out, groups_of, groups_leave, groups_ordered_of, groups_ordered_leave}
use Rattle.types.specs.Promises.{ListingPromise, GroupsPromise, GroupsOrderedPromise}
use Rattle.types.specs.declared.Refusal.{Refusal}
use Rattle.laws.proofs.Lists.{T_and}
use Rattle.laws.proofs.Judging.{accept-inj, need-inv, need-true, then-inv, then-assoc}
use Rattle.laws.proofs.Accepted.{SizesFacts, sizes-facts, AxesFacts, axes-facts}
use Rattle.laws.proofs.Groups.{places-rearranges}
use Rattle.laws.proofs.Orders.{rearranged, plain-rearranged, listing-places, listing-plain, listing-rearranges}
use Rattle.order.specs.Order.{EachBelow}
use Rattle.groups.specs.Ordering.{judge_mesh, judge_both, places_out, ByPlace, axis_order, along, IsList, IsAxisOrder}
use Rattle.groups.proofs.Ordering.{list_length, order-list, order-span, places-along}

-- ---- a mesh that passed

pub on-mesh : (mesh : List ℕ) → judge_mesh mesh ≡ accept tt → OnMesh mesh
on-mesh mesh e =
    let c = need-inv 0 (axes_allowed (length mesh)) 5 (judge_sizes most_devices 10 11 1 mesh) tt e in
    let n = T_and (leb 1 (length mesh)) (leb (length mesh) most_axes) c.0 in
    let f : SizesFacts most_devices 1 mesh = sizes-facts most_devices 10 11 1 mesh (lit< tt) (lit≤ tt) c.1 in
    record {
      axes_some = leb→le 1 (length mesh) n.0;
      axes_few = leb→le (length mesh) most_axes n.1;
      devices_pos = omega (arith, f.pos);
      devices_few = omega (arith, f.few);
    }

-- ---- the tests after those of the mesh

module _ (ordered : Judged (Unit {0})) (mesh axes out : List ℕ) where
  abbrev named : Judged (Unit {0})
  named = judge_axes (length mesh) false 0 [] axes

  abbrev fits : Judged (Unit {0})
  fits = need (leb (devices mesh) (length out)) 33

  abbrev pub tests : Judged (Unit {0})
  tests = judge_both ordered (judge_both named fits)

  -- the answer by the tests taken together
  by_tests : groups_by ordered mesh axes out ≡ ◌>>◌ (judge_mesh mesh) (◌>>◌ tests (accept (devices mesh)))
  unfolding groups_by
  by_tests =
      let d : Judged ℕ = accept (devices mesh) in
      let last : ◌>>◌ ordered (◌>>◌ named (◌>>◌ fits d)) ≡ ◌>>◌ tests d =
      ap (λ (j : Judged ℕ). ◌>>◌ ordered j) (sym (then-assoc named fits d)) ∙ sym (then-assoc ordered (◌>>◌ named fits) d) in
      sym (then-assoc (need (axes_allowed (length mesh)) 5) (judge_sizes most_devices 10 11 1 mesh) (◌>>◌ ordered (◌>>◌ named (◌>>◌ fits d))))
      ∙ ap (λ (j : Judged ℕ). ◌>>◌ (judge_mesh mesh) j) last

  -- the tests of the code in turn
  pub all-pass : ordered ≡ accept tt → named ≡ accept tt → fits ≡ accept tt → tests ≡ accept tt
  all-pass eo en ef = rw (eo, en, ef) refl

  pub axes-refuse : (r : Refusal) → ordered ≡ accept tt → named ≡ refused_with r → tests ≡ refused_with r
  axes-refuse r eo en = rw (eo, en) refl

  pub room-refuses : (r : Refusal) → ordered ≡ accept tt → named ≡ accept tt → fits ≡ refused_with r → tests ≡ refused_with r
  room-refuses r eo en ef = rw (eo, en, ef) refl

  pub mesh-refuses : (r : Refusal) → judge_mesh mesh ≡ refused_with r → groups_by ordered mesh axes out ≡ refused_with r
  mesh-refuses r e = by_tests ∙ rw e refl

  pub refuses : judge_mesh mesh ≡ accept tt → (r : Refusal) → tests ≡ refused_with r → ByPlace ordered mesh axes out (Err r) out
  refuses m r e =
      let a : groups_by ordered mesh axes out ≡ refused_with r = by_tests ∙ rw (m, e) refl in
      record { answers = sym a; leaves = sym (ap (λ (j : Judged ℕ). places_out j mesh axes out) a) }

  -- all tests pass
  pub record Passes : Type 0 where
    pub mesh-fine : judge_mesh mesh ≡ accept tt
    pub fine : tests ≡ accept tt

  module _ (p : Passes) where
    last-fine : (named ≡ accept tt) × (fits ≡ accept tt)
    last-fine = let l = then-inv named fits tt (then-inv ordered (◌>>◌ named fits) tt p.fine).1 in (l.0.1, l.1)

    pub list-ready : IsList (length mesh) axes
    list-ready =
        let f : AxesFacts (length mesh) [] axes = axes-facts (length mesh) false 0 [] axes last-fine.0 in
        record { few = (on-mesh mesh p.mesh-fine).axes_few; below = f.below; once = f.once }

    pub list-few : length axes ≤ most_axes
    list-few = omega (arith, list_length list-ready, list-ready.few)

    pub order-ready : (all : List ℕ) → all ≡ axis_order (length mesh) axes → IsAxisOrder mesh all (length out)
    order-ready all ea =
        let f : OnMesh mesh = on-mesh mesh p.mesh-fine in
        rw ea (record {
          fits = f;
          list = order-list list-ready;
          whole = order-span mesh axes f list-ready;
          enough = leb→le (devices mesh) (length out) (need-true 0 (leb (devices mesh) (length out)) 33 last-fine.1);
        })

    -- "It writes D device numbers .. Entries after the first D stay."
    pub lists : (all : List ℕ) (d : ℕ) {after : List ℕ} → all ≡ axis_order (length mesh) axes → d ≡ devices mesh
        → after ≡ tab (devices mesh) (along mesh all) ++ drop (devices mesh) out → ByPlace ordered mesh axes out (Ok d) after
    lists all d ea w l =
        let a : groups_by ordered mesh axes out ≡ accept d = by_tests ∙ rw (p.mesh-fine, p.fine, w) refl in
        let front : tab (devices mesh) (along mesh all) ≡ places_listed mesh axes =
        rw ea (sym (places-along mesh axes (on-mesh mesh p.mesh-fine) list-ready)) in
        record {
          answers = sym a;
          leaves = l ∙ ap₂ (λ (n : List ℕ) (k : ℕ). n ++ drop k out) front (sym w) ∙ sym (ap (λ (j : Judged ℕ). places_out j mesh axes out) a);
        }

-- ---- the promises, under an order that is a rearrangement where its test passed

module _ (ordered : Judged (Unit {0})) (order mesh axes out : List ℕ) (o : ordered ≡ accept tt → Rearrangement (devices mesh) order) where
  abbrev answer : Judged ℕ
  answer = groups_by ordered mesh axes out

  -- "The D numbers are a rearrangement of 0 to D-1.", by place too
  record Numbers (d : ℕ) : Type 0 where
    all : devices mesh ≡ d
    order_is : Rearrangement (devices mesh) order
    places : Rearrangement (devices mesh) (places_listed mesh axes)
    numbers : Rearrangement (devices mesh) (listing order mesh axes)

  accepted : (d : ℕ) → answer ≡ accept d → Numbers d
  accepted d e =
      let m = then-inv (judge_mesh mesh) (◌>>◌ (tests ordered mesh axes out) (accept (devices mesh))) d (sym (by_tests ordered mesh axes out) ∙ e) in
      let t = then-inv (tests ordered mesh axes out) (accept (devices mesh)) d m.1 in
      let last : Judged (Unit {0}) = ◌>>◌ (named ordered mesh axes out) (fits ordered mesh axes out) in
      let l : IsList (length mesh) axes = list-ready ordered mesh axes out (record { mesh-fine = m.0.1; fine = t.0.1 }) in
      let r : Rearrangement (devices mesh) order = o (then-inv ordered last tt t.0.1).0.1 in
      let p : Rearrangement (devices mesh) (places_listed mesh axes) = places-rearranges mesh axes l.once l.below in
      record { all = accept-inj t.1; order_is = r; places = p; numbers = listing-rearranges order mesh axes r p }

  abbrev Promise : Result ℕ Refusal → List ℕ → Type 0
  Promise r after = ListingPromise answer (groups_out answer order mesh axes out) mesh out r after

  promised : (r : Result ℕ Refusal) {after : List ℕ} → judged r ≡ answer → after ≡ groups_out answer order mesh axes out → Promise r after
  promised r {after} e l =
      let out_at : (j : Judged ℕ) → judged r ≡ j → after ≡ groups_out j order mesh axes out = λ j q.
      l ∙ ap (λ (k : Judged ℕ). groups_out k order mesh axes out) (sym e ∙ q) in
      record {
        answers = e;
        leaves = l;
        all = λ d q. sym (accepted d (sym e ∙ q)).all;
        rearranged = λ d q.
            let n : Numbers d = accepted d (sym e ∙ q) in
            rw (out_at (accept d) q, take_at (listing order mesh axes) (drop d out) d (n.numbers.size ∙ n.all), ← n.all) n.numbers;
        stay = λ d q.
            let n : Numbers d = accepted d (sym e ∙ q) in
            rw (out_at (accept d) q) (drop_at (listing order mesh axes) (drop d out) d (n.numbers.size ∙ n.all));
        refused = λ n k q. out_at (refuse n k) q;
      }

  refused-here : (r : Refusal) → answer ≡ refused_with r → Promise (Err r) out
  refused-here r e = promised (Err r) (sym e) (sym (ap (λ (j : Judged ℕ). groups_out j order mesh axes out) e))

-- ---- without an order

module _ (mesh axes out : List ℕ) where
  plain-is : {ordered : Judged (Unit {0})} → ordered ≡ accept tt → Rearrangement (devices mesh) (plain_order (devices mesh))
  plain-is e = plain-rearranged (devices mesh)

  pub plain-mesh : (r : Refusal) → judge_mesh mesh ≡ refused_with r → GroupsPromise mesh axes out (Err r) out
  unfolding groups_of groups_leave
  plain-mesh r e = refused-here (accept tt) (plain_order (devices mesh)) mesh axes out plain-is r (mesh-refuses (accept tt) mesh axes out r e)

  pub plain-promised : (r : Result ℕ Refusal) {after : List ℕ} → ByPlace (accept tt) mesh axes out r after → GroupsPromise mesh axes out r after
  unfolding groups_of groups_leave
  plain-promised r b =
      promised (accept tt) (plain_order (devices mesh)) mesh axes out plain-is r b.answers
      (b.leaves ∙ go (groups_by (accept tt) mesh axes out) refl)
    where
      go : (j : Judged ℕ) → groups_by (accept tt) mesh axes out ≡ j
          → places_out j mesh axes out ≡ groups_out j (plain_order (devices mesh)) mesh axes out
      go (accept d) e =
          ap (λ (l : List ℕ). l ++ drop d out)
          (sym (listing-plain mesh axes (accepted (accept tt) (plain_order (devices mesh)) mesh axes out plain-is d e).places))
      go (refuse n k) e = refl

-- ---- with an order

pub order-tested : (mesh order : List ℕ) {d : ℕ} {allowed : Bool} {j : Judged (Unit {0})} → d ≡ devices mesh → allowed ≡ order_allowed d order
    → j ≡ need allowed 19 → j ≡ need (order_allowed (devices mesh) order) 19
order-tested mesh order ed ea ej = rw (ej, ea, ed) refl

-- places that are lent to be looked up: what look_up asks, and what it leaves
pub record LooksUp (mesh order axes out placed : List ℕ) (d : ℕ) : Type 0 where
  pub room : d ≤ length placed
  pub inside : EachBelow (length order) (take d placed)
  pub leaves : (part : List ℕ) → part ≡ map (λ p. get_or order p 0) (take d placed)
      → GroupsOrderedPromise mesh order axes out (Ok d) (part ++ drop d placed)

module _ (mesh order axes out : List ℕ) where
  abbrev order_test : Judged (Unit {0})
  order_test = need (order_allowed (devices mesh) order) 19

  order_is : order_test ≡ accept tt → Rearrangement (devices mesh) order
  unfolding order_allowed
  order_is e =
      rearranged (devices mesh) order
      (T_and (rearranges (devices mesh) order) (not (same order (plain_order (devices mesh)))) (need-true 0 (order_allowed (devices mesh) order) 19 e)).0

  pub order-mesh : (r : Refusal) → judge_mesh mesh ≡ refused_with r → GroupsOrderedPromise mesh order axes out (Err r) out
  unfolding groups_ordered_of groups_ordered_leave
  order-mesh r e = refused-here order_test order mesh axes out order_is r (mesh-refuses order_test mesh axes out r e)

  module _ {r : Result ℕ Refusal} {ordered : Judged (Unit {0})} {placed : List ℕ} (q : ordered ≡ order_test)
      (b : ByPlace ordered mesh axes out r placed) where
    answers : judged r ≡ groups_by order_test mesh axes out
    answers = b.answers ∙ ap (λ (j : Judged (Unit {0})). groups_by j mesh axes out) q

    placed-is : {j : Judged ℕ} → judged r ≡ j → placed ≡ places_out j mesh axes out
    placed-is e = b.leaves ∙ ap (λ (j : Judged ℕ). places_out j mesh axes out) (sym b.answers ∙ e)

    left_is : {j : Judged ℕ} → judged r ≡ j → groups_out j order mesh axes out ≡ groups_out (groups_by order_test mesh axes out) order mesh axes out
    left_is e = ap (λ (j : Judged ℕ). groups_out j order mesh axes out) (sym e ∙ answers)

    -- a refusal leaves the same by place and by number
    pub order-refuses : {t : Refusal} → r ≡ Err t → GroupsOrderedPromise mesh order axes out r placed
    unfolding groups_ordered_of groups_ordered_leave
    order-refuses e = promised order_test order mesh axes out order_is r answers (placed-is (ap judged e) ∙ left_is (ap judged e))

    pub order-promised : {d : ℕ} → r ≡ Ok d → LooksUp mesh order axes out placed d
    unfolding groups_ordered_of groups_ordered_leave
    order-promised {d} e =
        let places : List ℕ = places_listed mesh axes in
        let n : Numbers order_test order mesh axes out order_is d =
        accepted order_test order mesh axes out order_is d (sym answers ∙ ap judged e) in
        let l : placed ≡ places ++ drop d out = placed-is (ap judged e) in
        let s : length places ≡ d = n.places.size ∙ n.all in
        let front : take d placed ≡ places = ap (take d) l ∙ take_at places (drop d out) d s in
        let rest : drop d placed ≡ drop d out = ap (drop d) l ∙ drop_at places (drop d out) d s in
        record {
          room = omega (arith, ap length l, length-append places (drop d out), s);
          inside = λ p h.
              let k : p < devices mesh = omega (arith, h, ap length front, n.places.size) in
              omega (arith, ap (λ (x : List ℕ). get_or x p 0) front, n.places.below p k, n.order_is.size);
          leaves = λ part w.
              let looked : part ≡ listing order mesh axes = w ∙ ap (map (λ p. get_or order p 0)) front ∙ sym (listing-places order mesh axes) in
              promised order_test order mesh axes out order_is (Ok d) (ap judged (sym e) ∙ answers)
              (ap₂ (λ (x y : List ℕ). x ++ y) looked rest ∙ left_is (ap judged e));
        }
