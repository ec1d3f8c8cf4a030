-- One fact more raises the counts of its kind.
use Rattle.std.proofs.Common.{◌≡◌, ◌∙◌, ℕ, ◌+◌, Bool, true, false, min, cond, refl, ap}
use Rattle.std.proofs.Common.{List, [], ◌∷◌, ◌++◌, arith}
use Rattle.std.proofs.lemmas.List.Sums.{sum_by_push}
use Rattle.std.specs.List.{count_by}
use Rattle.lan_core.specs.declared.fact.Fact.{Fact}
use Rattle.fact_tally.specs.Summary.{is_accepted, is_beginning, is_claim, is_frame, is_install}
use Rattle.fact_tally.specs.Summary.{is_late, is_missed, is_refusal, is_tick, most, counted}
use Rattle.fact_tally.specs.Summary.{counts}
use Rattle.fact_tally.specs.inside.Counting.{stepped, one_more}

stops : (b : Bool) (n : ℕ) → min (n + cond b 1 0) most ≡ stepped b (min n most)
stops true n = omega arith
stops false n = omega arith

counted_more : (kind : Fact → Bool) (shown : List Fact) (fact : Fact)
    → counted kind (shown ++ fact ∷ []) ≡ stepped (kind fact) (counted kind shown)
counted_more kind shown fact =
    ap (λ n. min n most) (sum_by_push (λ x. cond (kind x) 1 0) shown fact)
    ∙ stops (kind fact) (count_by kind shown)

pub counts_more : (shown : List Fact) (fact : Fact)
    → counts (shown ++ fact ∷ []) ≡ one_more (counts shown) fact
unfolding counts
counts_more shown fact =
    let more : (kind : Fact → Bool)
    → counted kind (shown ++ fact ∷ []) ≡ stepped (kind fact) (counted kind shown) =
    λ kind. counted_more kind shown fact in
    rw (
      more is_accepted,
      more is_beginning,
      more is_claim,
      more is_frame,
      more is_install,
      more is_late,
      more is_missed,
      more is_refusal,
      more is_tick,
    )
    refl
