-- The candidates of a period, and those that BYSETPOS keeps.
-- Assumes nothing.
use Rattle.std.specs.Prelude.{ℕ, zero, suc, ◌+◌, ◌-◌, ◌*◌, ◌/◌, ◌≤◌, ◌<◌, ◌≡◌, Bool, true, false, List, [], ◌∷◌, ◌++◌, map, length, get_or, pos, neg_ℤ, if◌then◌else◌}
use Rattle.rule.specs.declared.rrule.Frequency.{Frequency}
use Rattle.rule.specs.declared.rrule.Rule.{Rule}
use Rattle.rule.specs.Instants.{day_of, hour_of, minute_of, second_of}
use Rattle.rule.specs.Lists.{positions, is_in, is_empty}
use Rattle.rule.specs.Filling.{is_below}
use Rattle.rule.specs.Days.{either_end, day_passes}
use Rattle.rule.specs.Times.{hour_passes, minute_passes, second_passes, time_passes}
use Rattle.rule.specs.Periods.{Period, period}

-- In words: s lies in period k, its day passes and its time passes.
pub record Candidate (r : Rule) (k s : ℕ) : Type 0 where
  pub begun : (period r k).begins ≤ s
  pub before_end : s < (period r k).ends
  pub day : day_passes r (day_of s) ≡ true
  pub time : time_passes r s ≡ true

-- g i ++ g (i + 1) ++ .., n parts; a part where a test passes
unfoldable pub gather : (ℕ → List ℕ) → ℕ → ℕ → List ℕ
gather g zero i = []
gather g (suc n) i = g i ++ gather g n (i + 1)

abbrev pub only : Bool → List ℕ → List ℕ
only true xs = xs
only false xs = []

-- the hours, minutes or seconds that a period covers: all n, where its frequency is coarser, or the one that it fixes
unfoldable pub covered : Bool → ℕ → ℕ → (ℕ → List ℕ) → List ℕ
unfolding gather
covered true n v g = gather g n 0
covered false n v g = g v

-- the passing times that lie in a period of the rule's frequency, which begins at b: seconds of a day, rising
unfoldable pub times : Rule → ℕ → List ℕ
unfolding covered hour_passes minute_passes second_passes
times r b =
    covered (is_below r.freq Frequency.Hourly) 24 (hour_of b) (λ h. only (hour_passes r h)
    (covered (is_below r.freq Frequency.Minutely) 60 (minute_of b) (λ m. only (minute_passes r m)
    (covered (is_below r.freq Frequency.Secondly) 60 (second_of b) (λ s. only (second_passes r s)
    ((h * 3600 + m * 60 + s) ∷ []))))))

-- the times ts of the days from d on, n of them, that pass
unfoldable pub on_days : Rule → List ℕ → ℕ → ℕ → List ℕ
unfolding gather day_passes
on_days r ts n d = gather (λ e. only (day_passes r e) (map (λ t. e * 86400 + t) ts)) n d

-- The candidates of a period are the passing days with the passing times that lie in it, rising.
unfoldable pub candidates_of : Rule → Period → List ℕ
unfolding on_days times
candidates_of r p = on_days r (times r p.begins) ((p.ends + 86399) / 86400 - day_of p.begins) (day_of p.begins)

unfoldable pub candidates : Rule → ℕ → List ℕ
unfolding candidates_of period
candidates r k = candidates_of r (period r k)

-- BYSETPOS, in words: position p counts from 1, so p chooses number j, counted from 0, of n candidates where j + 1 is p; -1 is the last, so
-- -p chooses it where j + p is n. An empty list keeps all.
pub data Chosen (s : List Bool) (n j : ℕ) : Type 0 where
  all : is_empty s ≡ true → Chosen s n j
  forward : (p : ℕ) → j + 1 ≡ p → is_in positions s (pos p) ≡ true → Chosen s n j
  from_end : (p : ℕ) → 1 ≤ p → j + p ≡ n → is_in positions s (neg_ℤ (pos p)) ≡ true → Chosen s n j

-- s is a kept candidate of period k: it is candidate number j of n, and j is chosen.
pub record Kept (r : Rule) (k s : ℕ) : Type 0 where
  pub j : ℕ
  pub below : j < length (candidates r k)
  pub is_s : get_or (candidates r k) j 0 ≡ s
  pub choice : Chosen r.bysetpos (length (candidates r k)) j

-- The same, computed: in order, each once.
abbrev pub chooses : List Bool → ℕ → ℕ → Bool
chooses s n j = either_end positions s (j + 1) n

unfoldable pub chosen : List Bool → ℕ → ℕ → List ℕ → List ℕ
unfolding either_end
chosen s n j [] = []
chosen s n j (x ∷ xs) = only (chooses s n j) (x ∷ []) ++ chosen s n (j + 1) xs

unfoldable pub keeps : List Bool → List ℕ → List ℕ
unfolding is_empty chosen
keeps s xs = if is_empty s then xs else chosen s (length xs) 0 xs

unfoldable pub kept : Rule → ℕ → List ℕ
unfolding keeps candidates
kept r k = keeps r.bysetpos (candidates r k)
