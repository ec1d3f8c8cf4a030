-- Values of the definitions. The items are numbers, which are their own times.
use Rattle.std.proofs.Common.{◌≡◌, ◌<◌, ◌/◌, ℕ, [], ◌∷◌, Some, refl, arith}
use Rattle.std.proofs.lemmas.List.Elements.{All-nil, All-cons}
use Rattle.tick_columns.specs.declared.column.Column.{Column}
use Rattle.tick_columns.specs.Columns.{AreColumns, IsColumn, Columns, columns}
use Rattle.tick_columns.specs.inside.Joining.{joined}

abbrev seven : Column ℕ
seven = record { before = 1; last = 7 }

abbrev twelve : Column ℕ
twelve = record { before = 0; last = 12 }

-- in columns of ten ticks the first two lie in one, and the third in the next
first_two : IsColumn (λ n. n) 10 (3 ∷ 7 ∷ []) seven
first_two = record {
  before = 3 ∷ [];
  items_are = refl;
  counted = refl;
  together = All-cons (λ n. n / 10 ≡ 7 / 10) 3 [] refl (All-nil (λ n. n / 10 ≡ 7 / 10));
}

third : IsColumn (λ n. n) 10 (12 ∷ []) twelve
third = record {
  before = [];
  items_are = refl;
  counted = refl;
  together = All-nil (λ n. n / 10 ≡ 12 / 10);
}

two_columns : AreColumns (λ n. n) 10 (3 ∷ 7 ∷ 12 ∷ []) (seven ∷ twelve ∷ [])
two_columns = (
  3 ∷ 7 ∷ [],
  12 ∷ [],
  refl,
  first_two,
  All-cons (λ n. 7 / 10 < n / 10) 12 [] (omega arith) (All-nil (λ n. 7 / 10 < n / 10)),
  (12 ∷ [], [], refl, third, All-nil (λ n. 12 / 10 < n / 10), refl),
)

abbrev kept : Columns ℕ
kept = record { ticks = 10; earlier = seven ∷ []; latest = Some twelve }

-- a column that is the latest one comes to it, and its item is the last one now
comes_to_the_latest : columns (joined (λ n. n) (record { before = 4; last = 19 }) kept)
    ≡ seven ∷ record { before = 5; last = 19 } ∷ []
comes_to_the_latest = refl

comes_behind : columns (joined (λ n. n) (record { before = 4; last = 20 }) kept)
    ≡ seven ∷ twelve ∷ record { before = 4; last = 20 } ∷ []
comes_behind = refl
