-- Time behind one fact more.
use Rattle.std.proofs.Common.{◌≡◌, ◌∙◌, ◌+◌, ℕ, Bool, cond, List, [], ◌∷◌, ◌++◌, refl, ap, arith}
use Rattle.lan_core.specs.declared.fact.Fact.{Fact}
use Rattle.transcript_reader.specs.Time.{moves, own_after, own_from, ticks_from}

pub own-more : (own : Bool) (facts : List Fact) (fact : Fact)
    → own_from own (facts ++ fact ∷ []) ≡ own_after (own_from own facts) fact
own-more own [] fact = refl
own-more own (f ∷ facts) fact = own-more (own_after own f) facts fact

pub ticks-more : (own : Bool) (facts : List Fact) (fact : Fact)
    → ticks_from own (facts ++ fact ∷ []) ≡ ticks_from own facts + cond (moves (own_from own facts) fact) 1 0
ticks-more own [] fact = let e : cond (moves own fact) 1 0 + 0 ≡ 0 + cond (moves own fact) 1 0 = omega arith in e
ticks-more own (f ∷ facts) fact =
    let one = cond (moves own f) 1 0 in
    let rest = ticks_from (own_after own f) facts in
    let last = cond (moves (own_from (own_after own f) facts) fact) 1 0 in
    let e : one + (rest + last) ≡ one + rest + last = omega arith in
    ap (λ (n : ℕ). one + n) (ticks-more (own_after own f) facts fact) ∙ e
