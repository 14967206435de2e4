-- One answer: two answers that the promise of `none_open` allows are one, and so is what two answers leave that the promise of `open_period`
-- allows. `Post` is the promise as the source states it.
-- Assumes nothing.
use mathlib.Core.Path.{◌≡◌, refl}
use Rattle.calendar.proofs.AsksNothing.{AsksNothing, nothing_asked}
use Rattle.calendar.proofs.Determines.{Determines, DeterminesBuffer, one_answer}
use Rattle.opening.specs.declared.period.OpenPeriod.{OpenPeriod}
use Rattle.opening.proofs.period.none_open.Kinds as none-open-kinds
use Rattle.opening.proofs.period.none_open.Reads as none-open
use Rattle.opening.proofs.period.open_period.Kinds as open-period-kinds
use Rattle.opening.proofs.period.open_period.Reads as open-period

pub none_open_has_one : Determines 0 none-open-kinds.ps none-open-kinds.r none-open.Post
none_open_has_one κs a x y e f = one_answer

-- what is open is told by its three parts
all_alike : {x y : OpenPeriod} → x.period ≡ y.period → x.days ≡ y.days → x.places ≡ y.places → x ≡ y
all_alike p d q = λ i. record { period = p i; days = d i; places = q i }

-- it is the last parameter
pub open_period_has_one : DeterminesBuffer 4 open-period-kinds.ps open-period-kinds.r OpenPeriod (λ κs e. e.1.1.1.1.1.0.now) open-period.Post
open_period_has_one κs a x y e f p q = (refl, all_alike (one_answer p.0 q.0) (one_answer p.1.0 q.1.0) (one_answer p.1.1 q.1.1))

-- and none asks anything of its callers
pub none_open_asks_nothing : AsksNothing 0 none-open-kinds.ps none-open.requires
none_open_asks_nothing κs a = nothing_asked

pub open_period_asks_nothing : AsksNothing 4 open-period-kinds.ps open-period.requires
open_period_asks_nothing κs a = nothing_asked
