-- What was found is found among more.
use Rattle.std.proofs.Common.{◌≡◌, Bool, true, false, List, [], ◌∷◌, Option, Some, None, refl}
use Rattle.std.specs.Prelude.{cond, is_some}
use Rattle.std.specs.List.{find}
use Rattle.lan_core.specs.declared.fact.Fact.{Fact}
use Rattle.lan_core.specs.Ledgers.{gather, with_one}

pub find-more : {A : Type 0} (p : A → Bool) (x : A) (xs : List A) → is_some (find p xs) ≡ true
    → is_some (find p (x ∷ xs)) ≡ true
find-more p x xs there = by (p x) where
  by : (b : Bool) → is_some (cond b (Some x) (find p xs)) ≡ true
  by true = refl
  by false = there

find-one : {A : Type 0} (p : A → Bool) (o : Option A) (xs : List A) → is_some (find p xs) ≡ true
    → is_some (find p (with_one o xs)) ≡ true
find-one p None xs there = there
find-one p (Some x) xs there = find-more p x xs there

pub find-gather : {A : Type 0} (p : A → Bool) (read : Fact → Option A) (facts : List Fact) (xs : List A)
    → is_some (find p xs) ≡ true → is_some (find p (gather read facts xs)) ≡ true
find-gather p read [] xs there = there
find-gather p read (fact ∷ others) xs there =
    find-gather p read others (with_one (read fact) xs) (find-one p (read fact) xs there)
