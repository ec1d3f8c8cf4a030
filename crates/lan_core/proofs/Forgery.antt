-- Whether foreign octets are forged.
use Rattle.std.proofs.Common.{◌≡◌, ◌∙◌, ◌<◌, ℕ, Bool, true, false, List, [], ◌∷◌, length, Some}
use Rattle.std.proofs.Common.{None, Ok, Err, Result, refl, ap, sym, arith}
use Rattle.std.specs.Prelude.{◌&&◌, ◌||◌, not, is_some, is_ok}
use Rattle.std.specs.List.{list_any}
use Rattle.std.proofs.lemmas.List.Folds.{list_any-append}
use Rattle.mkpdu_codec.specs.declared.announcement.Announcement.{Announcement}
use Rattle.mka_station.specs.declared.verdict.DropReason.{DropReason}
use Rattle.mka_station.specs.Lives.{Setup}
use Rattle.mka_station.specs.Hearing.{right}
use Rattle.mka_kdf.specs.Kdf.{ick_of}
use Rattle.aes_block.specs.Secrets.{secret_octets}
use Rattle.lan_core.specs.declared.event.Event.TheVariants as events
use Rattle.lan_core.specs.declared.settings.Settings.{Settings}
use Rattle.lan_core.specs.Run.{Run, stations}
use Rattle.lan_core.specs.Ledgers.{Frame, air}
use Rattle.lan_core.specs.Lives.{setup_of}
use Rattle.lan_core.specs.Order.{Exists}
use Rattle.lan_core.specs.Fresh.{is_forged}
use Rattle.lan_core.specs.Standing.{in_order}
use Rattle.lan_core.specs.inside.Judge.{IsJudged}
use Rattle.lan_core.specs.inside.Repeats.{repeats_octets}

-- ---- right

is_some_where : (j : Result Announcement DropReason)
    → is_some (elim j [ Ok a ↦ Some a | Err reason ↦ None ]) ≡ is_ok j
is_some_where (Ok a) = refl
is_some_where (Err reason) = refl

-- octets are right where the stations of the group take them for an announcement
pub right-is : (settings : Settings) (octets : List ℕ) (j : Result Announcement DropReason)
    → IsJudged settings octets j → (setup : Setup) → setup.ckn ≡ settings.ckn
    → setup.ick ≡ ick_of (secret_octets settings.cak) settings.ckn
    → is_ok j ≡ is_some (right setup octets)
right-is settings octets j judged setup ckn ick =
    sym (is_some_where j) ∙ ap (λ j. is_some (elim j [ Ok a ↦ Some a | Err reason ↦ None ]))
    (judged setup (record { ckn = ckn; ick = ick }))

-- ---- forged

or_false : (b : Bool) → (b || false) ≡ b
or_false true = refl
or_false false = refl

or_self : (b : Bool) → (b || b) ≡ b
or_self true = refl
or_self false = refl

any_same : {A : Type 0} (f : A → Bool) (b : Bool) → ((a : A) → f a ≡ b) → (xs : List A) → 0 < length xs
    → list_any f xs ≡ b
any_same f b each [] some = absurd (omega (arith, some))
any_same f b each (x ∷ []) some = rw (each x) (or_false b)
any_same f b each (x ∷ y ∷ ys) some = rw (each x, any_same f b each (y ∷ ys) (omega arith)) (or_self b)

or_swap : (a b : Bool) → (a || (b || false)) ≡ (b || a)
or_swap true true = refl
or_swap true false = refl
or_swap false true = refl
or_swap false false = refl

any_in_order : (f : List ℕ → Bool) (fs : List Frame)
    → list_any f (in_order fs) ≡ list_any (λ frame. f frame.octets) fs
any_in_order f [] = refl
any_in_order f (frame ∷ fs) =
    rw (list_any-append f (in_order fs) (frame.octets ∷ []), any_in_order f fs)
    (or_swap (list_any (λ frame. f frame.octets) fs) (f frame.octets))

pub forged-is : (settings : Settings) (r : Run) (s : ℕ) (octets : List ℕ) (lan : List (List ℕ)) (own : Bool)
    → lan ≡ in_order (air r) → Exists s r
    → ((setup : Setup) → setup.ckn ≡ settings.ckn → setup.ick ≡ ick_of (secret_octets settings.cak) settings.ckn
    → own ≡ is_some (right setup octets))
    → is_forged settings r octets ≡ (own && not (list_any (repeats_octets octets) lan))
forged-is settings r s octets lan own put exists right_is =
    let each = any_same (λ p. is_some (right (setup_of settings p) octets)) own
    (λ p. sym (right_is (setup_of settings p) refl refl)) (stations r) (omega (arith, exists)) in
    rw (put, any_in_order (repeats_octets octets) (air r), each) refl

pub are-forged : (forged own known : Bool) → forged ≡ (own && not known) → own ≡ true → known ≡ false
    → forged ≡ true
are-forged forged own known is right new = cc (is, go own known right new)
  where
    go : (own known : Bool) → own ≡ true → known ≡ false → (own && not known) ≡ true
    go true true right new = absurd (cc new)
    go true false right new = refl
    go false known right new = absurd (cc right)

pub not-right : (forged own known : Bool) → forged ≡ (own && not known) → own ≡ false → forged ≡ false
not-right forged own known is wrong = cc (is, go own wrong)
  where
    go : (own : Bool) → own ≡ false → (own && not known) ≡ false
    go true wrong = absurd (cc wrong)
    go false wrong = refl

pub not-new : (forged own known : Bool) → forged ≡ (own && not known) → known ≡ true → forged ≡ false
not-new forged own known is old = cc (is, go own known old)
  where
    go : (own known : Bool) → known ≡ true → (own && not known) ≡ false
    go true true old = refl
    go true false old = absurd (cc old)
    go false known old = refl
