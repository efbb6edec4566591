-- Room in buffers (`less-room`, `pick-long`). What may run is within the limits (`within`) and may run by another judgement of the same (`by`). Assumes
-- nothing.
use Prim.Native.Nat.{ℕ, ◌*◌, ◌≤◌}
use mathlib.Core.Path.{◌≡◌}
use mathlib.Core.Bool.{Bool, true, false}
use mathlib.Core.List.{List}
use native.Mathlib.Nat.{le_trans, mul-le-mul_left}
use lib.ListN.{length}
use Rattle.rules.specs.Lists.{pick}
use Rattle.rules.specs.Mesh.{devices}
use Rattle.rules.specs.Refusals.{accept}
use Rattle.rules.specs.PlanFile.{JudgesStep}
use Rattle.types.specs.Types.{mesh_of, sizes_of}
use Rattle.types.specs.declared.Table.{Table}
use Rattle.types.specs.declared.Mesh.{Mesh}
use Rattle.laws.proofs.Accepted.{Within}
use Rattle.rounds.specs.Rounds.{judged_from, CanRun}
use Rattle.rounds.specs.declared.Progress.{Progress}

-- a smaller state needs less room
pub less-room : (mesh : List ℕ) {few most words : ℕ} → few ≤ most → devices mesh * most ≤ words → devices mesh * few ≤ words
less-room mesh l h = le_trans (mul-le-mul_left (devices mesh) l) h

pub pick-long : (b : Bool) {room : ℕ} (work spare : List ℕ) → room ≤ length work → room ≤ length spare → room ≤ length (pick b work spare)
pick-long true work spare h l = h
pick-long false work spare h l = l

module _ {judges : JudgesStep} {file : List ℕ} {mesh : Mesh} {table : Table} {from : Progress} {work spare : ℕ}
    (g : CanRun judges file mesh table from work spare) where
  pub within : Within (mesh_of mesh) (sizes_of table)
  within = record {
    axes_some = g.limits.on.axes_some;
    axes_few = g.limits.on.axes_few;
    sizes_pos = g.ready.fits.sized.least;
    sizes_few = g.ready.fits.sized.most;
    devices_pos = g.limits.on.devices_pos;
    devices_few = g.limits.on.devices_few;
    rank_some = g.limits.rank_some;
    rank_few = g.limits.rank_few;
    words_pos = g.limits.words_pos;
    words_few = g.limits.words_few;
  }

  abbrev pub by : {other : JudgesStep} → judged_from other table from ≡ accept g.read → CanRun other file mesh table from work spare
  by e = record {
    ready = g.ready;
    limits = g.limits;
    number_few = g.number_few;
    short = g.short;
    read = g.read;
    accepted = e;
    work_room = g.work_room;
    spare_room = g.spare_room;
  }
