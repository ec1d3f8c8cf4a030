-- What is kept of one giving and of one reused packet more.
use Rattle.std.proofs.Common.{◌≡◌, ◌≤◌, ◌∙◌, ℕ, Bool, true, false, cond, List, [], ◌∷◌, ◌++◌, Option, Some, None, refl, sym, ap, subst}
use Rattle.std.specs.Prelude.{◌==◌, All}
use Rattle.std.specs.Map.{lookup}
use Rattle.std.specs.Option.{option_or}
use Rattle.std.specs.BTreeMap.{is_at}
use Rattle.std.specs.Cmp.{nat_cmp_is}
use Rattle.std.specs.Cmp.Lexicographic.{texts_ties}
use Rattle.std.specs.Ordering.{nat_cmp, is_eq}
use Rattle.std.specs.declared.cmp.Ordering.{Ordering}
use Rattle.std.specs.declared.cmp.Ordering.TheVariants.{Less, Equal, Greater}
use Rattle.std.proofs.lemmas.Bool.{eqb-true, eq-eqb}
use Rattle.std.proofs.lemmas.List.{append-nil}
use Rattle.std.proofs.lemmas.List.Elements.{All-append, All-cons, All-head, All-nil, All-tail}
use Rattle.std.proofs.lemmas.Map.Lookups.{CmpEqualImpliesEq, exact_unsigned, exact_bytes}
use Rattle.lan_base.specs.declared.address.Sci.{Sci}
use Rattle.lan_base.specs.Identifiers.{same_sci}
use Rattle.tick_columns.specs.Columns.{Columns}
use Rattle.mark_notes.specs.declared.giving.Giving.{Giving}
use Rattle.mark_notes.specs.declared.reuse.Reuse.{Reuse}
use Rattle.mark_notes.specs.Marks.{reuse_here, reuses_of}
use Rattle.mark_notes.specs.Standing.{KeepsReuses, KeptMarks, StandsFor, sci_cmp}
use Rattle.mark_notes.specs.inside.Putting.{IsGivenMore, IsReusedAt}

-- ---- the orders tie just those that are the same

equal : (o : Ordering) → is_eq o ≡ true → o ≡ Equal
equal Less e = absurd (cc e)
equal Equal e = refl
equal Greater e = absurd (cc e)

same-bool : (b c : Bool) → (b ≡ true → c ≡ true) → (c ≡ true → b ≡ true) → b ≡ c
same-bool true true f g = refl
same-bool true false f g = sym (f refl)
same-bool false true f g = g refl
same-bool false false f g = refl

nat-ties : (m n : ℕ) → is_at (nat_cmp m) n ≡ (m == n)
nat-ties m n =
    same-bool (is_eq (nat_cmp m n)) (m == n)
    (λ e. eq-eqb m n (exact_unsigned m n (equal (nat_cmp m n) e)))
    (λ e. ap is_eq (sym (nat_cmp_is m n Equal (eqb-true m n e))))

sci-ties : (a b : Sci) → is_at (sci_cmp a) b ≡ same_sci a b
sci-ties a b = sym (texts_ties a.0 b.0)

sci-of : (a b : Sci) → a.0 ≡ b.0 → a ≡ b
sci-of a b e = λ t. record { 0 = e t }

exact-sci : CmpEqualImpliesEq sci_cmp
exact-sci a b e = sci-of a b (exact_bytes a.0 b.0 e)

-- ---- givings

pub gave : (gs : List Giving) (rs : List Reuse) (old : KeptMarks) (g : Giving) (new : List (ℕ × Giving)) → StandsFor gs rs old
    → IsGivenMore g old.givings new → StandsFor (g ∷ gs) rs (record { givings = new; senders = old.senders })
gave gs rs old g new stands more = record {
  givings = λ key.
      more key
      ∙ (λ t. option_or (stands.givings key t) (cond (nat-ties g.key key t) (Some g) None));
  senders = stands.senders;
}

-- ---- reused packets

here-behind : (packet : ℕ) (sci : Sci) (r : Reuse) → r.packet ≤ packet
    → All (λ (x : Reuse). x.packet ≤ packet) (reuse_here sci r)
here-behind packet sci r behind = go (same_sci r.sci sci)
  where
    go : (b : Bool) → All (λ (x : Reuse). x.packet ≤ packet) (cond b (r ∷ []) [])
    go true = All-cons (λ (x : Reuse). x.packet ≤ packet) r [] behind (All-nil (λ (x : Reuse). x.packet ≤ packet))
    go false = All-nil (λ (x : Reuse). x.packet ≤ packet)

-- those of a sender are not behind a packet that none is behind
pub stay-behind : (packet : ℕ) (sci : Sci) (rs : List Reuse) → All (λ (x : Reuse). x.packet ≤ packet) rs
    → All (λ (x : Reuse). x.packet ≤ packet) (reuses_of sci rs)
stay-behind packet sci [] behind = All-nil (λ (x : Reuse). x.packet ≤ packet)
stay-behind packet sci (r ∷ rs) behind =
    All-append (λ (x : Reuse). x.packet ≤ packet) (reuses_of sci rs) (reuse_here sci r)
    (stay-behind packet sci rs (All-tail (λ (x : Reuse). x.packet ≤ packet) r rs behind))
    (here-behind packet sci r (All-head (λ (x : Reuse). x.packet ≤ packet) r rs behind))

pub reused : (gs : List Giving) (rs : List Reuse) (old : KeptMarks) (r : Reuse) (new : List (Sci × Columns Reuse))
    → StandsFor gs rs old → IsReusedAt r (reuses_of r.sci rs) old.senders new
    → StandsFor gs (r ∷ rs) (record { givings = old.givings; senders = new })
reused gs rs old r new stands more = record {
  givings = stands.givings;
  senders = λ sci.
      subst (λ (o : Option (Columns Reuse)). KeepsReuses (reuses_of sci (r ∷ rs)) o) (sym (more.changed sci))
      (go sci (is_at (sci_cmp r.sci) sci) refl);
}
  where
    here : (sci : Sci) → r.sci ≡ sci → KeepsReuses (reuses_of sci rs ++ r ∷ []) (Some more.columns)
    here sci is = subst (λ (s : Sci). KeepsReuses (reuses_of s rs ++ r ∷ []) (Some more.columns)) is more.thinned

    go : (sci : Sci) (b : Bool) → is_at (sci_cmp r.sci) sci ≡ b
        → KeepsReuses (reuses_of sci (r ∷ rs)) (cond b (Some more.columns) (lookup (is_at (sci_cmp sci)) old.senders))
    go sci true is =
        subst (λ (c : Bool). KeepsReuses (reuses_of sci rs ++ cond c (r ∷ []) []) (Some more.columns))
        (sym (sym (sci-ties r.sci sci) ∙ is))
        (here sci (exact-sci r.sci sci (equal (sci_cmp r.sci sci) is)))
    go sci false is =
        subst (λ (c : Bool). KeepsReuses (reuses_of sci rs ++ cond c (r ∷ []) []) (lookup (is_at (sci_cmp sci)) old.senders))
        (sym (sym (sci-ties r.sci sci) ∙ is))
        (subst (λ (xs : List Reuse). KeepsReuses xs (lookup (is_at (sci_cmp sci)) old.senders))
        (sym (append-nil (reuses_of sci rs))) (stands.senders sci))
