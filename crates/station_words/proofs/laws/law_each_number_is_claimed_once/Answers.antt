use Rattle.std.proofs.Common.{◌≤◌, ℕ, subst}
use Rattle.station_words.proofs.laws.law_each_number_is_claimed_once.Goals as goal

pub returns : goal.returns
returns c = λ v a t epoch pn. subst (λ (n : ℕ). n ≤ 1) (t.claims epoch pn) (t.keep_up.learned.differ epoch pn)
