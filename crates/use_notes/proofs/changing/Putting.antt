-- What is kept of a sender when one frame more comes.
use Rattle.std.proofs.Common.{◌≡◌, ◌≢◌, ◌∙◌, ℕ, Bool, true, false, cond, List, [], ◌∷◌, Some, Result, Ok, Err, refl, sym, ap, subst}
use Rattle.std.specs.Prelude.{OnOk, OnErr}
use Rattle.std.specs.Map.{lookup}
use Rattle.std.specs.BTreeMap.{is_at}
use Rattle.std.specs.Ordering.{nat_cmp, is_eq}
use Rattle.std.specs.Cmp.Lexicographic.{slice_cmp, texts_ties}
use Rattle.std.specs.declared.cmp.Ordering.{Ordering}
use Rattle.std.specs.declared.cmp.Ordering.TheVariants.{Less, Equal, Greater}
use Rattle.std.proofs.lemmas.Cmp.{nat_list_eq_equiv}
use Rattle.std.proofs.lemmas.Map.Lookups.{exact_bytes}
use Rattle.lan_base.specs.declared.address.Sci.{Sci}
use Rattle.lan_base.specs.Identifiers.{same_sci}
use Rattle.use_notes.specs.declared.frame.RightFrame.{RightFrame}
use Rattle.use_notes.specs.Frames.{IsBehind, AreInOrder}
use Rattle.use_notes.specs.changes.Changes.{frames_from, sci_cmp}
use Rattle.use_notes.specs.changes.Standing.{KeptOfSender, Keeps, KeepsSome, Senders, StandsFor, kept_at}
use Rattle.use_notes.specs.changes.inside.Putting.{IsPutAt}

equal : (o : Ordering) → is_eq o ≡ true → o ≡ Equal
equal Less e = absurd (cc e)
equal Equal e = refl
equal Greater e = absurd (cc e)

sci-of : (a b : Sci) → a.0 ≡ b.0 → a ≡ b
sci-of a b e = λ t. record { 0 = e t }

-- whether two senders are the same, by their octets and by their order
pub ties : (a b : Sci) → same_sci a b ≡ is_at (sci_cmp a) b
ties a b = texts_ties a.0 b.0

exact-at : (a b : Sci) → is_at (sci_cmp a) b ≡ true → a ≡ b
exact-at a b e = sci-of a b (exact_bytes a.0 b.0 (equal (slice_cmp nat_cmp a.0 b.0) e))

exact-same : (a b : Sci) → same_sci a b ≡ true → a ≡ b
exact-same a b e = exact-at a b (sym (ties a b) ∙ e)

same-itself : (a : Sci) → same_sci a a ≡ true
same-itself a = nat_list_eq_equiv.refl a.0

-- what an insertion says of what is found
abbrev Changes : Sci → KeptOfSender → Senders → Senders → Type 0
Changes at kept old new =
    (q : Sci) → lookup (is_at (sci_cmp q)) new ≡ cond (is_at (sci_cmp at) q) (Some kept) (lookup (is_at (sci_cmp q)) old)

untouched : (at : Sci) (kept : KeptOfSender) (old new : Senders) → Changes at kept old new → (q : Sci) → q ≢ at
    → lookup (is_at (sci_cmp q)) new ≡ lookup (is_at (sci_cmp q)) old
untouched at kept old new changes q apart = go (is_at (sci_cmp at) q) refl
  where
    go : (b : Bool) → is_at (sci_cmp at) q ≡ b → lookup (is_at (sci_cmp q)) new ≡ lookup (is_at (sci_cmp q)) old
    go true e = absurd (apart (sym (exact-at at q e)))
    go false e = changes q ∙ ap (λ b. cond b (Some kept) (lookup (is_at (sci_cmp q)) old)) e

-- what is kept of a sender was put
pub put-at : (at : Sci) (fs : List RightFrame) (kept : KeptOfSender) (old new : Senders) → Keeps fs kept
    → Changes at kept old new → lookup (is_at (sci_cmp at)) new ≡ Some kept → IsPutAt at fs old new
put-at at fs kept old new keeps changes here = record {
  kept = kept;
  here = here;
  keeps = keeps;
  others = λ other apart. untouched at kept old new changes other apart;
}

-- ---- frames of a sender

behind-from : (sci : Sci) (packet : ℕ) (h : List RightFrame) → IsBehind packet h → IsBehind packet (frames_from sci h)
behind-from sci packet [] behind = behind
behind-from sci packet (e ∷ h) behind = go (same_sci e.sci sci) (behind-from sci packet h behind.1)
  where
    go : (b : Bool) → IsBehind packet (frames_from sci h)
        → IsBehind packet (cond b (e ∷ frames_from sci h) (frames_from sci h))
    go true rest = (behind.0, rest)
    go false rest = rest

order-from : (sci : Sci) (h : List RightFrame) → AreInOrder h → AreInOrder (frames_from sci h)
order-from sci [] order = tt
order-from sci (e ∷ h) order = go (same_sci e.sci sci) (order-from sci h order.1)
  where
    go : (b : Bool) → AreInOrder (frames_from sci h) → AreInOrder (cond b (e ∷ frames_from sci h) (frames_from sci h))
    go true rest = (behind-from sci e.packet h order.0, rest)
    go false rest = rest

-- a frame more stands behind those of its sender
pub own-order : (e : RightFrame) (h : List RightFrame) → AreInOrder (e ∷ h) → AreInOrder (e ∷ frames_from e.sci h)
own-order e h order = (behind-from e.sci e.packet h order.0, order-from e.sci h order.1)

frames-with : (sci : Sci) (e : RightFrame) (h : List RightFrame) (b : Bool) → same_sci e.sci sci ≡ b
    → frames_from sci (e ∷ h) ≡ cond b (e ∷ frames_from sci h) (frames_from sci h)
frames-with sci e h b is = ap (λ c. cond c (e ∷ frames_from sci h) (frames_from sci h)) is

-- ---- all

pub noted : (e : RightFrame) (h : List RightFrame) (old new : Senders) → StandsFor h old → AreInOrder (e ∷ h)
    → IsPutAt e.sci (e ∷ frames_from e.sci h) old new → StandsFor (e ∷ h) new
noted e h old new stands order put = record {
  ordered = order;
  each = λ sci. go sci (same_sci e.sci sci) refl;
}
  where
    go : (sci : Sci) (b : Bool) → same_sci e.sci sci ≡ b → KeepsSome (frames_from sci (e ∷ h)) (kept_at new sci)
    go sci true is =
        subst (λ fs. KeepsSome fs (kept_at new sci)) (sym (frames-with sci e h true is))
        (subst (λ (at : Sci). KeepsSome (e ∷ frames_from at h) (kept_at new at)) (exact-same e.sci sci is)
        (subst (λ o. KeepsSome (e ∷ frames_from e.sci h) o) (sym put.here) put.keeps))
    go sci false is =
        let other : sci ≢ e.sci = λ same. absurd (cc (sym is ∙ ap (λ (at : Sci). same_sci e.sci at) same ∙ same-itself e.sci)) in
        subst (λ fs. KeepsSome fs (kept_at new sci)) (sym (frames-with sci e h false is))
        (subst (λ o. KeepsSome (frames_from sci h) o) (sym (put.others sci other)) (stands.each sci))

-- ---- results

pub on_err : {T E P Q : Type 0} (r : Result T E) → (P → Q) → OnErr r P → OnErr r Q
on_err (Ok x) f p = tt
on_err (Err e) f p = f p

pub on_ok : {T E P Q : Type 0} (r : Result T E) → (P → Q) → OnOk r P → OnOk r Q
on_ok (Ok x) f p = f p
on_ok (Err e) f p = tt
