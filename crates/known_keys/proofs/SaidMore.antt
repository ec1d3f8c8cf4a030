-- What was said, and one statement more.
use Rattle.std.proofs.Common.{◌≡◌, ◌∙◌, Bool, true, false, cond, List, ◌∷◌, Option, Some, map, refl, sym, ap}
use Rattle.std.specs.Prelude.{◌||◌}
use Rattle.std.specs.BTreeMap.{is_at}
use Rattle.std.specs.List.{list_any}
use Rattle.std.specs.declared.cmp.Ordering.{Ordering}
use Rattle.known_keys.specs.declared.said.Fresh.{Fresh}
use Rattle.known_keys.specs.History.{Entry}
use Rattle.known_keys.specs.Said.{Statement, is_named_so, is_said, same_naming, same_statement, says, statements, with_said}
use Rattle.known_keys.specs.Standing.{IsSaid}
use Rattle.known_keys.specs.Maps.{Sets, has, naming_cmp, statement_cmp}
use Rattle.known_keys.specs.inside.Sets.{Adds, IsPut}
use Rattle.known_keys.proofs.Ties.{naming-ties, statement-ties}

pub cond-or : (b c : Bool) → cond b true c ≡ (b || c)
cond-or true c = refl
cond-or false c = refl

-- a set, and one key more
added : {K : Type 0} (cmp : K → K → Ordering) (same : K → K → Bool)
    → ((a b : K) → is_at (cmp a) b ≡ same a b) → (k : K) (old new : List K) (q : K) (was : Bool)
    → Adds cmp k old new → has cmp old q ≡ was → has cmp new q ≡ (same k q || was)
added cmp same ties k old new q was adds is =
    adds q
    ∙ ap (λ b. cond b true (has cmp old q)) (ties k q)
    ∙ ap (λ b. cond (same k q) true b) is
    ∙ cond-or (same k q) was

pub said-more : (history : List Entry) (entry : Entry) (statement : Statement) (old new : Sets) (fresh : Fresh)
    → says history entry ≡ Some statement → IsSaid history old → IsPut statement old new fresh
    → IsSaid (entry ∷ history) new
said-more history entry statement old new fresh told are put = record {
  by_group = λ q.
      added statement_cmp same_statement statement-ties statement old.statements new.statements q (is_said history q)
      put.statement_in (are.by_group q)
      ∙ ap (λ (o : Option Statement). list_any (λ s. same_statement s q) (with_said o (statements history))) (sym told);
  by_all = λ q.
      added naming_cmp same_naming naming-ties statement.1.0 old.namings new.namings q (is_named_so history q)
      put.naming_in (are.by_all q)
      ∙ ap (λ (o : Option Statement). list_any (λ n. same_naming n q) (map (λ (s : Statement). s.1.0) (with_said o (statements history))))
      (sym told);
}
