-- The first reused frame and its first are the least pair that breaks.
use Rattle.std.proofs.Common.{◌≡◌, ◌≢◌, ◌∙◌, ◌<◌, ◌≤◌, ◌⊎◌, inl, inr, ℕ, Bool, true, false, cond, List, [], ◌∷◌, Option, Some, None, option_map, refl, sym, ap, subst, arith}
use Rattle.std.specs.Prelude.{◌==◌, ◌&&◌, is_some}
use Rattle.std.specs.Option.{option_or}
use Rattle.std.proofs.lemmas.Bool.{and_parts, eqb-true, eq-eqb, ne_eqb, cases_eq}
use Rattle.lan_base.specs.declared.address.Sci.{Sci}
use Rattle.least_pairs.specs.Pairs.{IsJudged, IsFound, IsOneMore}
use Rattle.least_pairs.proofs.Public.{some-same, found-stays, broken-now, found-is, found-again, found-first, first-told, agreeing}
use Rattle.use_notes.specs.declared.frame.RightFrame.{RightFrame}
use Rattle.use_notes.specs.declared.frame.First.{First}
use Rattle.use_notes.specs.Frames.{IsBehind, AreInOrder, is_of, frames_of, note_of, alike_here, first_alike, first_of, same_check, novelty_after, novelty_in}
use Rattle.use_notes.specs.Once.{Number, number_of, noted, BreaksOnce, reuse_by, first_reuse}
use Rattle.use_notes.proofs.Firsts.{or-none, other-here, same-here}
use Rattle.use_notes.proofs.Alikes.{first-is-alike}
use Rattle.use_notes.proofs.Numbers.{Told, number_dec, of-itself, is-of, same-lists, check-joins, check-itself}

-- ---- what is noted

pub noted-here : (e : RightFrame) (h : List RightFrame) → noted (e ∷ h) e.packet ≡ Some (number_of e, e.check)
noted-here e h =
    ap (λ b. cond b (Some (number_of e, e.check)) (noted h e.packet)) (eq-eqb e.packet e.packet refl)

pub noted-other : (e : RightFrame) (h : List RightFrame) (m : ℕ) → m ≢ e.packet → noted (e ∷ h) m ≡ noted h m
noted-other e h m apart =
    ap (λ b. cond b (Some (number_of e, e.check)) (noted h m)) (ne_eqb m e.packet apart)

noted-within : (packet : ℕ) (h : List RightFrame) → IsBehind packet h → (m : ℕ) (kv : Number × List ℕ)
    → noted h m ≡ Some kv → m < packet
noted-within packet [] behind m kv is = absurd (cc is)
noted-within packet (e ∷ h) behind m kv is = go (cases_eq m e.packet) (noted-within packet h behind.1 m kv)
  where
    go : (m ≡ e.packet) ⊎ (m ≡ e.packet → ⊥) → (noted h m ≡ Some kv → m < packet) → m < packet
    go (inl same) later = let less = behind.0 in omega (arith, same, less)
    go (inr apart) later = later (sym (noted-other e h m apart) ∙ is)

pub one-more : (e : RightFrame) (h : List RightFrame) → AreInOrder (e ∷ h)
    → IsOneMore Number (List ℕ) (noted h) (noted (e ∷ h)) e.packet (Some (number_of e, e.check))
one-more e h order = record {
  here = noted-here e h;
  kept = λ m apart. noted-other e h m apart;
  within = λ m kv is. noted-within e.packet h order.0 m kv is;
}

-- ---- what is found under a number

abbrev pub pair_of : First → ℕ × List ℕ
pair_of f = (f.packet, f.check)

abbrev pub found_of : List RightFrame → Number → Option (ℕ × List ℕ)
found_of h n = option_map pair_of (first_of n.pn (frames_of n.key n.sci h))

frames-with : (key : ℕ) (sci : Sci) (e : RightFrame) (h : List RightFrame) (b : Bool) → is_of key sci e ≡ b
    → frames_of key sci (e ∷ h) ≡ cond b (e ∷ frames_of key sci h) (frames_of key sci h)
frames-with key sci e h b is = ap (λ c. cond c (e ∷ frames_of key sci h) (frames_of key sci h)) is

found-here : (e : RightFrame) (h : List RightFrame) → found_of (e ∷ h) (number_of e)
    ≡ option_map pair_of (option_or (first_of e.pn (frames_of e.key e.sci h)) (Some (note_of e)))
found-here e h =
    ap (λ fs. option_map pair_of (first_of e.pn fs)) (frames-with e.key e.sci e h true (of-itself e))
    ∙ ap (λ o. option_map pair_of (option_or (first_of e.pn (frames_of e.key e.sci h)) o)) (same-here e)

found-other : (e : RightFrame) (h : List RightFrame) (n : Number) → n ≢ number_of e
    → found_of h n ≡ found_of (e ∷ h) n
found-other e h n apart = go (is_of n.key n.sci e) refl
  where
    go : (b : Bool) → is_of n.key n.sci e ≡ b → found_of h n ≡ found_of (e ∷ h) n
    go false is = ap (λ fs. option_map pair_of (first_of n.pn fs)) (sym (frames-with n.key n.sci e h false is))
    go true is =
        let both = is-of n.key n.sci e is in
        let other : n.pn ≢ e.pn = λ same. apart (λ t. record { key = sym both.0 t; sci = sym both.1 t; pn = same t }) in
        sym (ap (λ fs. option_map pair_of (first_of n.pn fs)) (frames-with n.key n.sci e h true is)
        ∙ ap (λ o. option_map pair_of (option_or (first_of n.pn (frames_of n.key n.sci h)) o)) (other-here n.pn e other)
        ∙ ap (option_map pair_of) (or-none (first_of n.pn (frames_of n.key n.sci h))))

key-of : (a : Number) (u : List ℕ) (b : Number) (v : List ℕ)
    → ◌≡◌ {A = Option (Number × List ℕ)} (Some (a, u)) (Some (b, v)) → a ≡ b
key-of a u b v is =
    let pairs : ◌≡◌ {A = Number × List ℕ} (a, u) (b, v) = some-same is in
    ap (λ (p : Number × List ℕ). p.0) pairs

pub found : (h : List RightFrame) → AreInOrder h → (n : Number)
    → IsFound Number (List ℕ) (noted h) n (found_of h n)
found [] order n = λ m v is. absurd (cc is)
found (e ∷ h) order n = by-number (found h order.1) (number_dec n (number_of e))
  where
    go : IsOneMore Number (List ℕ) (noted h) (noted (e ∷ h)) e.packet (Some (number_of e, e.check))
    go = one-more e h order

    again : (o : Option First) → IsFound Number (List ℕ) (noted h) (number_of e) (option_map pair_of o)
        → IsFound Number (List ℕ) (noted (e ∷ h)) (number_of e) (option_map pair_of (option_or o (Some (note_of e))))
    again None was = found-first Number (List ℕ) same_check (noted h) (noted (e ∷ h)) e.packet (number_of e) e.check go was
    again (Some f) was =
        found-again Number (List ℕ) same_check (noted h) (noted (e ∷ h)) e.packet
        (Some (number_of e, e.check)) go (number_of e) (pair_of f) was

    by-number : ((k : Number) → IsFound Number (List ℕ) (noted h) k (found_of h k)) → Told n (number_of e)
        → IsFound Number (List ℕ) (noted (e ∷ h)) n (found_of (e ∷ h) n)
    by-number was (inl same) =
        subst (λ k. IsFound Number (List ℕ) (noted (e ∷ h)) k (found_of (e ∷ h) k)) (sym same)
        (subst (λ o. IsFound Number (List ℕ) (noted (e ∷ h)) (number_of e) o) (sym (found-here e h))
        (again (first_of e.pn (frames_of e.key e.sci h)) (was (number_of e))))
    by-number was (inr apart) =
        subst (λ o. IsFound Number (List ℕ) (noted (e ∷ h)) n o) (found-other e h n apart)
        (found-is Number (List ℕ) same_check (noted h) (noted (e ∷ h)) e.packet
        (Some (number_of e, e.check)) go n
        (λ v is. apart (sym (key-of (number_of e) e.check n v is))) (found_of h n) (was n))

-- ---- one that is alike

alike-noted : (h : List RightFrame) → AreInOrder h → (n : Number) (check : List ℕ) (g : First)
    → first_alike n.pn check (frames_of n.key n.sci h) ≡ Some g → noted h g.packet ≡ Some (n, check)
alike-noted [] order n check g is = absurd (cc is)
alike-noted (e ∷ h) order n check g is = go (is_of n.key n.sci e) refl (alike-noted h order.1 n check g)
  where
    behind : noted h g.packet ≡ Some (n, check) → noted (e ∷ h) g.packet ≡ Some (n, check)
    behind was =
        let less = noted-within e.packet h order.0 g.packet (n, check) was in
        noted-other e h g.packet (λ same. omega (arith, less, same)) ∙ was

    own : e.key ≡ n.key → e.sci ≡ n.sci → (b : Bool) → ((e.pn == n.pn) && same_check e.check check) ≡ b
        → cond b (Some (note_of e)) None ≡ Some g → noted (e ∷ h) g.packet ≡ Some (n, check)
    own key sci false alike here = absurd (cc here)
    own key sci true alike here =
        let both = and_parts (e.pn == n.pn) (same_check e.check check) alike in
        let pn = eqb-true e.pn n.pn both.0 in
        let same = same-lists e.check check both.1 in
        ap (noted (e ∷ h)) (packet-of here) ∙ noted-here e h
        ∙ (λ t. Some ((record { key = key t; sci = sci t; pn = pn t }), same t))
      where
        packet-of : ◌≡◌ {A = Option First} (Some (note_of e)) (Some g) → g.packet ≡ e.packet
        packet-of here = sym (ap (λ (f : First). f.packet) (some-same here))

    by-first : e.key ≡ n.key → e.sci ≡ n.sci → (o : Option First)
        → first_alike n.pn check (frames_of n.key n.sci h) ≡ o
        → (first_alike n.pn check (frames_of n.key n.sci h) ≡ Some g → noted h g.packet ≡ Some (n, check))
        → option_or o (alike_here n.pn check e) ≡ Some g → noted (e ∷ h) g.packet ≡ Some (n, check)
    by-first key sci (Some f) old before here = behind (before (old ∙ here))
    by-first key sci None old before here =
        own key sci ((e.pn == n.pn) && same_check e.check check) refl here

    go : (b : Bool) → is_of n.key n.sci e ≡ b
        → (first_alike n.pn check (frames_of n.key n.sci h) ≡ Some g → noted h g.packet ≡ Some (n, check))
        → noted (e ∷ h) g.packet ≡ Some (n, check)
    go false of before =
        behind (before (ap (first_alike n.pn check) (sym (frames-with n.key n.sci e h false of)) ∙ is))
    go true of before =
        let both = is-of n.key n.sci e of in
        by-first both.0 both.1 (first_alike n.pn check (frames_of n.key n.sci h)) refl before
        (sym (ap (first_alike n.pn check) (frames-with n.key n.sci e h true of)) ∙ is)

-- it and the first one break, where that has another check value
apart-breaks : (h : List RightFrame) → AreInOrder h → (n : Number) (check : List ℕ) (f g : First)
    → IsFound Number (List ℕ) (noted h) n (Some (pair_of f))
    → first_alike n.pn check (frames_of n.key n.sci h) ≡ Some g → same_check f.check check ≡ false
    → BreaksOnce h f.packet g.packet
apart-breaks h order n check f g first is other = record {
  key = n;
  one = f.check;
  other = check;
  order = order-of (first.1 g.packet check there) (cases_eq f.packet g.packet);
  first = first.0;
  second = there;
  apart = other;
}
  where
    there : noted h g.packet ≡ Some (n, check)
    there = alike-noted h order n check g is

    told : f.packet ≡ g.packet → ◌≡◌ {A = Number × List ℕ} (n, f.check) (n, check)
    told same = some-same (sym first.0 ∙ ap (noted h) same ∙ there)

    order-of : f.packet ≤ g.packet → (f.packet ≡ g.packet) ⊎ (f.packet ≡ g.packet → ⊥) → f.packet < g.packet
    order-of less (inr other_packet) = omega (arith, less, other_packet)
    order-of less (inl same) =
        let check-is = ap (λ (p : Number × List ℕ). p.1) (told same) in
        absurd (cc (sym other ∙ check-itself f.check check check-is))

-- ---- the verdict

pub judged : (h : List RightFrame) → AreInOrder h → IsJudged (BreaksOnce h) (first_reuse h)
judged [] order = λ a b broken. cc broken.first
judged (e ∷ h) order = by-pair (first_reuse h) (judged h order.1)
  where
    go : IsOneMore Number (List ℕ) (noted h) (noted (e ∷ h)) e.packet (Some (number_of e, e.check))
    go = one-more e h order

    by-check : (f : First) → IsFound Number (List ℕ) (noted h) (number_of e) (Some (pair_of f))
        → IsJudged (BreaksOnce h) None → first_of e.pn (frames_of e.key e.sci h) ≡ Some f
        → (a : Option First) → first_alike e.pn e.check (frames_of e.key e.sci h) ≡ a
        → (b : Bool) → same_check f.check e.check ≡ b
        → IsJudged (BreaksOnce (e ∷ h)) (reuse_by e.packet (novelty_after (Some f) a))
    by-check f first was is (Some g) alike true same =
        agreeing Number (List ℕ) same_check check-joins check-itself (noted h) (noted (e ∷ h)) e.packet
        (number_of e) e.check go (pair_of f) first same was
    by-check f first was is None alike true same =
        absurd (cc (sym (ap (λ (o : Option First). is_some o) alike)
        ∙ first-is-alike e.pn e.check (frames_of e.key e.sci h) f is same))
    by-check f first was is None alike false same =
        broken-now Number (List ℕ) same_check (noted h) (noted (e ∷ h)) e.packet (number_of e) e.check go was
        (pair_of f) first same
    by-check f first was is (Some g) alike false same =
        absurd (was f.packet g.packet (apart-breaks h order.1 (number_of e) e.check f g first alike same))

    by-first : (o : Option First) → first_of e.pn (frames_of e.key e.sci h) ≡ o
        → IsFound Number (List ℕ) (noted h) (number_of e) (option_map pair_of o)
        → IsJudged (BreaksOnce h) None
        → IsJudged (BreaksOnce (e ∷ h)) (reuse_by e.packet (novelty_after o (first_alike e.pn e.check (frames_of e.key e.sci h))))
    by-first None is first was =
        first-told Number (List ℕ) same_check (noted h) (noted (e ∷ h)) e.packet (number_of e) e.check go first was
    by-first (Some f) is first was =
        by-check f first was is (first_alike e.pn e.check (frames_of e.key e.sci h)) refl (same_check f.check e.check) refl

    by-pair : (o : Option (ℕ × ℕ)) → IsJudged (BreaksOnce h) o
        → IsJudged (BreaksOnce (e ∷ h)) (option_or o (reuse_by e.packet (novelty_in h e)))
    by-pair (Some pair) was =
        found-stays Number (List ℕ) same_check (noted h) (noted (e ∷ h)) e.packet
        (Some (number_of e, e.check)) go pair was
    by-pair None was =
        by-first (first_of e.pn (frames_of e.key e.sci h)) refl (found h order.1 (number_of e)) was
