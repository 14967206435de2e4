-- `times::iterinfo::open_times` meets its contract.
-- Assumes nothing.
use Rattle.std.proofs.Common.{rules}
use Prim.Native.Nat.{ℕ, ◌/◌, ◌%◌}
use mathlib.Core.Path.{◌≡◌, ◌∙◌}
use mathlib.Core.Bool.{Bool}
use mathlib.Core.List.{List}
use Rattle.rule.specs.declared.rrule.Frequency.{Frequency}
use Rattle.rule.specs.Filling.{is_below}
use Rattle.times.specs.declared.iterinfo.Counts.{Counts}
use Rattle.times.specs.TimeSets.{flag_in, count_of, open_of}
use Rattle.times.proofs.Parts.{flag_is}
use Rattle.times.proofs.iterinfo.open_times.Goals as goal

-- what is open from its parts, as the code works them out
put_together : (freq : Frequency) (begins : ℕ) (flags : List Bool) (counts : Counts) (hourly minutely secondly hour minute second : Bool) (h m s : ℕ)
    → hourly ≡ is_below freq Frequency.Hourly
    → minutely ≡ is_below freq Frequency.Minutely
    → secondly ≡ is_below freq Frequency.Secondly
    → hour ≡ flag_in flags 0 24 (begins / 3600)
    → minute ≡ flag_in flags 24 60 (begins / 60 % 60)
    → second ≡ flag_in flags 84 60 (begins % 60)
    → h ≡ count_of hourly counts.hours hour
    → m ≡ count_of minutely counts.minutes minute
    → s ≡ count_of secondly counts.seconds second
    → ◌≡◌ {A = Counts} record { hours = h; minutes = m; seconds = s } (open_of freq begins flags counts)
unfolding open_of
put_together freq begins flags counts hourly minutely secondly hour minute second h m s n o p a b c x y z = rw (x, y, z, a, b, c, n, o, p)

pub returns : goal.returns
returns c =
    let f = c in
    let a = f.args in
    put_together a.freq a.begins a.flags.now a.counts c.lt.result c.lt-2.result c.lt-3.result _ _ _ _ _ _
    (search rules) (search rules) (search rules)
    (f.flag_in-hour.ensures ∙ flag_is a.flags.now 0 24 _)
    (f.flag_in-minute.ensures ∙ flag_is a.flags.now 24 60 _)
    (f.flag_in-second.ensures ∙ flag_is a.flags.now 84 60 _)
    c.count_of.ensures
    c.count_of-2.ensures
    c.count_of-3.ensures
