-- What was told.
use Rattle.std.proofs.Common.{◌≡◌, List, [], ◌∷◌, ◌++◌, sym, ap, ◌∙◌, subst}
use Rattle.std.proofs.Common.{append_assoc, append-nil}
use Rattle.trace_acts.specs.Acts.{World}
use Rattle.trace_acts.specs.Tellings.{AreTold, Begins, WasTold}

pub told-both : {K P : Type 0} (Took : K → P → K → Type 0) (a b c : K) (xs ys : List P)
    → AreTold Took a xs b → AreTold Took b ys c → AreTold Took a (xs ++ ys) c
told-both {K = K} Took a b c [] ys f g = subst (λ (k : K). AreTold Took k ys c) (sym f) g
told-both Took a b c (x ∷ xs) ys f g = (f.0, f.1, told-both Took f.0 b c xs ys f.2 g)

module _ {R C K P : Type 0} {reports : R → List P} {Took : K → P → K → Type 0} where
  pub told-none : (w v : World R C) (a b : K) → v.run ≡ w.run → b ≡ a → WasTold reports Took w v a b
  told-none w v a b run same = record {
    told = [];
    since = ap reports run ∙ sym (append-nil (reports w.run));
    by_one = sym same;
  }

  pub told-then : (w v u : World R C) (a b c : K) → WasTold reports Took w v a b
      → WasTold reports Took v u b c → WasTold reports Took w u a c
  told-then w v u a b c f g = record {
    told = f.told ++ g.told;
    since = g.since ∙ ap (λ (l : List P). l ++ g.told) f.since
        ∙ append_assoc (reports w.run) f.told g.told;
    by_one = told-both Took a b c f.told g.told f.by_one g.by_one;
  }

-- ---- what was shown stays

pub begins-self : {P : Type 0} (xs : List P) → Begins xs xs
begins-self xs = record { more = []; parts = append-nil xs }

pub begins-then : {P : Type 0} (xs ys zs : List P) → Begins xs ys → Begins ys zs → Begins xs zs
begins-then {P = P} xs ys zs f g = record {
  more = f.more ++ g.more;
  parts = sym (append_assoc xs f.more g.more) ∙ ap (λ (l : List P). l ++ g.more) f.parts ∙ g.parts;
}
