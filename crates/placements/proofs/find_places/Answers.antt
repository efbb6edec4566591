use borrow.Rule.Slice.PartMut.{put_mid}
use native.Mathlib.Omega.{arith}
use native.Mathlib.Nat.{sub-zero}
use Prim.Native.Nat.{ℕ, ◌+◌, ◌*◌, ◌-◌, ◌≤◌}
use mathlib.Core.Path.{◌≡◌, sym, ap, ◌∙◌, subst}
use mathlib.Core.Bool.{Bool, true}
use mathlib.Core.List.{List}
use lib.ListN.{length, take, replicate, length-replicate}
use Rattle.rules.specs.Lists.{tab}
use Rattle.rules.specs.Limits.{most_devices}
use Rattle.rules.specs.Mesh.{plain_order, Rearrangement}
use Rattle.rules.specs.PlanFile.{u16_at, edition, carries_order}
use Rattle.laws.proofs.Fronts.{lent_length, lent-taken}
use Rattle.reader.specs.Reading.{order_of, order_in}
use Rattle.order.specs.Order.{places_of}
use Rattle.placements.proofs.Firsts.{places-plain}
use Rattle.placements.proofs.find_places.Goals as goal

abbrev zeros : List ℕ
zeros = replicate most_devices 0

many : length zeros ≡ most_devices
many = length-replicate {A = ℕ} most_devices 0

-- the order's numbers, in the part that was lent and read into, are the order of the file
read_is : (file part : List ℕ) (n d : ℕ) → d ≤ most_devices → carries_order (edition file) ≡ true
    → length part ≡ length (take (d - 0) zeros) → part ≡ tab (length (take (d - 0) zeros)) (λ i. u16_at file (18 + 2 * n + 2 * i))
    → take (d - 0) (put_mid 0 (d - 0) zeros part) ≡ order_in file n d
read_is file part n d few c size e =
    let f : ℕ → ℕ = λ i. u16_at file (18 + 2 * n + 2 * i) in
    let lent : length (take (d - 0) zeros) ≡ d = lent_length zeros d (omega (arith, few, many)) in
    ap (λ (k : ℕ). take k (put_mid 0 (d - 0) zeros part)) (sub-zero d) ∙ lent-taken zeros part d (size ∙ lent) ∙ e ∙ ap (λ (m : ℕ). tab m f) lent
    ∙ sym (ap (λ (b : Bool). order_of b d file (18 + 2 * n)) c)

pub returns-then-not-carries_order : goal.returns-then-not-carries_order
returns-then-not-carries_order c = let d : ℕ = length c.args.places.now in
    let plain : order_in c.args.file.now c.args.n d ≡ plain_order d =
    ap (λ (b : Bool). order_of b d c.args.file.now (18 + 2 * c.args.n)) (sym c.carries_order.ensures ∙ c.if-not-carries_order.true) in
    c.number_places.ensures ∙ places-plain d ∙ ap places_of (sym plain)

pub invert-requires : goal.invert-requires
invert-requires c =
    let r = c.read_order in
    let d = length c.args.places.now in
    subst (λ (l : List ℕ). Rearrangement d l)
    (sym (read_is c.args.file.now r.new.numbers c.args.n d c.requires.1
    (sym c.carries_order.ensures ∙ c.if-not-carries_order.false) r.auto.numbers r.ensures))
    c.requires.2
