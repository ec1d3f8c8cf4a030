-- What is kept of a key and a sender when one frame more comes.
use Rattle.std.proofs.Common.{◌≡◌, ◌≢◌, ◌∙◌, ℕ, Bool, true, false, cond, List, [], ◌∷◌, Some, Result, Ok, Err, refl, sym, ap, subst, arith}
use Rattle.std.specs.Prelude.{OnErr, IfOk}
use Rattle.std.specs.Option.{option_or}
use Rattle.std.specs.Map.{lookup}
use Rattle.std.specs.BTreeMap.{is_at}
use Rattle.std.specs.Ordering.{nat_cmp}
use Rattle.std.specs.Cmp.Lexicographic.{slice_cmp}
use Rattle.std.proofs.lemmas.Map.Lookups.{CmpEqualImpliesEq, exact_pairs, exact_unsigned, exact_bytes}
use Rattle.lan_base.specs.declared.address.Sci.{Sci}
use Rattle.use_notes.specs.declared.frame.RightFrame.{RightFrame}
use Rattle.use_notes.specs.declared.novelty.Novelty.{Novelty}
use Rattle.use_notes.specs.Frames.{IsBehind, AreInOrder, is_of, frames_of, novelty_in}
use Rattle.use_notes.specs.Once.{reuse_by, first_reuse}
use Rattle.use_notes.specs.Uses.{use_cmp}
use Rattle.use_notes.specs.Standing.{KeptOfUse, Keeps, KeepsSome, Notes, StandsFor, kept_at}
use Rattle.use_notes.specs.inside.Putting.{IsPutAt}
use Rattle.use_notes.proofs.Firsts.{Changes, untouched}
use Rattle.use_notes.proofs.Numbers.{sci-of, of-itself, is-of}

exact-sci : CmpEqualImpliesEq (λ (a b : Sci). slice_cmp nat_cmp a.0 b.0)
exact-sci a b e = sci-of a b (exact_bytes a.0 b.0 e)

pub exact-use : CmpEqualImpliesEq use_cmp
exact-use a b e = exact_pairs nat_cmp (λ (a b : Sci). slice_cmp nat_cmp a.0 b.0) exact_unsigned exact-sci a b e

abbrev pub Senders : Type 0
Senders = List ((ℕ × Sci) × KeptOfUse)

-- what is kept under a key and a sender was put
pub put-at : (at : ℕ × Sci) (fs : List RightFrame) (kept : KeptOfUse) (old new : Senders) → Keeps fs kept
    → Changes use_cmp at kept old new → lookup (is_at (use_cmp at)) new ≡ Some kept
    → IsPutAt at fs old new
put-at at fs kept old new keeps changes here = record {
  kept = kept;
  here = here;
  keeps = keeps;
  others = λ other apart. untouched use_cmp exact-use at kept old new changes other apart;
}

-- ---- frames of a key and a sender

pub behind-of : (key : ℕ) (sci : Sci) (packet : ℕ) (h : List RightFrame) → IsBehind packet h
    → IsBehind packet (frames_of key sci h)
behind-of key sci packet [] behind = behind
behind-of key sci packet (e ∷ h) behind = go (is_of key sci e) (behind-of key sci packet h behind.1)
  where
    go : (b : Bool) → IsBehind packet (frames_of key sci h)
        → IsBehind packet (cond b (e ∷ frames_of key sci h) (frames_of key sci h))
    go true later = (behind.0, later)
    go false later = later

pub order-of : (key : ℕ) (sci : Sci) (h : List RightFrame) → AreInOrder h → AreInOrder (frames_of key sci h)
order-of key sci [] order = tt
order-of key sci (e ∷ h) order = go (is_of key sci e) (order-of key sci h order.1)
  where
    go : (b : Bool) → AreInOrder (frames_of key sci h)
        → AreInOrder (cond b (e ∷ frames_of key sci h) (frames_of key sci h))
    go true later = (behind-of key sci e.packet h order.0, later)
    go false later = later

-- a frame more stands behind those of its key and sender
pub own-order : (e : RightFrame) (h : List RightFrame) → AreInOrder (e ∷ h)
    → AreInOrder (e ∷ frames_of e.key e.sci h)
own-order e h order = (behind-of e.key e.sci e.packet h order.0, order-of e.key e.sci h order.1)

frames-with : (key : ℕ) (sci : Sci) (e : RightFrame) (h : List RightFrame) (b : Bool) → is_of key sci e ≡ b
    → frames_of key sci (e ∷ h) ≡ cond b (e ∷ frames_of key sci h) (frames_of key sci h)
frames-with key sci e h b is = ap (λ c. cond c (e ∷ frames_of key sci h) (frames_of key sci h)) is

-- ---- all

pub noted : (e : RightFrame) (h : List RightFrame) (old new : Notes) (told : Novelty) → StandsFor h old
    → AreInOrder (e ∷ h) → told ≡ novelty_in h e
    → IsPutAt (e.key, e.sci) (e ∷ frames_of e.key e.sci h) old.senders new.senders
    → new.once ≡ option_or old.once (reuse_by e.packet told) → StandsFor (e ∷ h) new
noted e h old new told stands order is put once = record {
  ordered = order;
  senders = λ key sci. go key sci (is_of key sci e) refl;
  once = once ∙ ap (λ o. option_or o (reuse_by e.packet told)) stands.once
      ∙ ap (λ (t : Novelty). option_or (first_reuse h) (reuse_by e.packet t)) is;
}
  where
    no : false ≡ true → ⊥
    no is = cc is

    go : (key : ℕ) (sci : Sci) (b : Bool) → is_of key sci e ≡ b
        → KeepsSome (frames_of key sci (e ∷ h)) (kept_at new key sci)
    go key sci true is =
        let both = is-of key sci e is in
        subst (λ fs. KeepsSome fs (kept_at new key sci)) (sym (frames-with key sci e h true is))
        (subst (λ (at : ℕ × Sci). KeepsSome (e ∷ frames_of at.0 at.1 h) (kept_at new at.0 at.1))
        (λ t. (both.0 t, both.1 t))
        (subst (λ o. KeepsSome (e ∷ frames_of e.key e.sci h) o) (sym put.here) (omega arith, put.keeps)))
    go key sci false is =
        let other : (key, sci) ≢ (e.key, e.sci) = λ same.
        no (sym is ∙ ap (λ (at : ℕ × Sci). is_of at.0 at.1 e) same ∙ of-itself e) in
        subst (λ fs. KeepsSome fs (kept_at new key sci)) (sym (frames-with key sci e h false is))
        (subst (λ o. KeepsSome (frames_of key sci h) o) (sym (put.others (key, sci) other)) (stands.senders key sci))

-- ---- results

pub on_err : {T E P Q : Type 0} (r : Result T E) → (P → Q) → OnErr r P → OnErr r Q
on_err (Ok x) f p = tt
on_err (Err e) f p = f p

pub if_ok : {T E : Type 0} {P Q : T → Type 0} (r : Result T E) → ((x : T) → P x → Q x) → IfOk r P → IfOk r Q
if_ok (Ok x) f p = f x p
if_ok (Err e) f p = tt
