-- What is on the air was said, and what is heard of it too.
use Rattle.std.proofs.Common.{◌≡◌, ◌<◌, ◌^◌, refl, sym, ap, subst, inl, inr, ◌⊎◌, ℕ, List, length}
use Rattle.std.proofs.Common.{take, Bool, true, false, cond, not, ◌&&◌, Some, Result, Ok, Err}
use Rattle.std.proofs.Common.{slice_index}
use Rattle.std.specs.Prelude.{All, nat_eq, nat_le, ◌==◌, ◌%◌}
use lib.Pointwise.{pointwise, bytes_decides}
use Rattle.std.proofs.lemmas.Bool.{and_parts, eqb-true, true≢false}
use Rattle.aes_cmac.specs.Cmac.{cmac}
use Rattle.gcm_frames.specs.Tags.{is_sec}
use Rattle.mkpdu_codec.specs.declared.announcement.Announcement.{Announcement}
use Rattle.mkpdu_codec.specs.declared.given.Given.{Given}
use Rattle.mkpdu_codec.specs.declared.spelled.Spelled.{Spelled}
use Rattle.mkpdu_codec.specs.declared.refusal.Refusal.{Refusal}
use Rattle.mkpdu_codec.specs.declared.refusal.Refusal.TheVariants.{NotMka}
use Rattle.mkpdu_codec.specs.Frames.{Set, Spells, SpellsGiven}
use Rattle.mkpdu_codec.specs.Reading.{reading, parts_at}
use Rattle.mkpdu_codec.specs.Refusals.{is_mka}
use Rattle.mkpdu_codec.proofs.Public.{read_again, IsBytes-all, same_covered, read_is_spelled}
use Rattle.mka_station.specs.declared.verdict.DropReason.TheVariants.{CkName, Check}
use Rattle.mka_station.specs.Lives.{Setup}
use Rattle.mka_station.specs.Hearing.{judged, read_as, of_group}
use Rattle.lan_core.specs.Fresh.{same_spelling}
use Rattle.group_safety.proofs.once.Frames.{IsRanged}

-- a frame that spells an announcement of which this is known
pub record IsMkaFrame (Told : Announcement → Type 0) (octets : List ℕ) : Type 0 where
  pub says : Announcement
  pub covered : ℕ
  pub check : List ℕ
  pub spells : Spells octets says covered check
  pub told : Told says

-- a frame on the air is a protected one, or spells such an announcement
abbrev pub IsCarried : (Announcement → Type 0) → List ℕ → Type 0
IsCarried Told octets = (is_sec octets ≡ true) ⊎ IsMkaFrame Told octets

pub carried-more : (Told More : Announcement → Type 0) (octets : List ℕ)
    → ((a : Announcement) → Told a → More a) → IsCarried Told octets → IsCarried More octets
carried-more Told More octets grows (inl sec) = inl sec
carried-more Told More octets grows (inr m) = inr (record {
  says = m.says;
  covered = m.covered;
  check = m.check;
  spells = m.spells;
  told = grows m.says m.told;
})

-- what is known of an announcement that is heard
pub record IsHeardOf (Told : Announcement → Type 0) (a : Announcement) : Type 0 where
  pub told : Told a
  pub ranged : IsRanged a
  pub gift : (g : Given) → a.given ≡ Some g → g.number < 2 ^ 32

gift-small : (s : Set) (g : Given) → SpellsGiven s (Some g) → g.number < 2 ^ 32
gift-small s g is = is.number

spelled-heard : (Told : Announcement → Type 0) (octets : List ℕ) (a : Announcement) (n : ℕ)
    (check : List ℕ) → Spells octets a n check → Told a → IsHeardOf Told a
spelled-heard Told octets a n check s told = record {
  told = told;
  ranged = record { mi = s.says.mi; mn = s.says.mn };
  gift = λ g e. gift-small _ g (subst (SpellsGiven _) e s.given);
}

-- ---- what is read

middle-fails : (a b c d e : Bool) → c ≡ false → (a && b && c && d && e) ≡ false
middle-fails true true true d e h = absurd (cc h)
middle-fails true true false d e h = refl
middle-fails true false c d e h = refl
middle-fails false b c d e h = refl

-- a protected frame spells nothing
pub sec-unread : (octets : List ℕ) → is_sec octets ≡ true → reading octets ≡ Err NotMka
unfolding reading parts_at
sec-unread octets sec =
    let octet : slice_index octets 13 ≡ 0xe5 = eqb-true _ _ ((and_parts _ _ sec).1) in
    let other : (slice_index octets 13 == 0x8e) ≡ false = ap (λ (n : ℕ). n == 0x8e) octet in
    let no : is_mka octets ≡ false =
    middle-fails (nat_le 18 (length octets)) (slice_index octets 12 == 0x88)
    (slice_index octets 13 == 0x8e) (slice_index octets 15 == 5) (slice_index octets 0 % 2 == 1)
    other in
    rw no refl

pub ok-same : {A E : Type 0} (r : Result A E) (a b : A) → r ≡ Ok a → r ≡ Ok b → a ≡ b
ok-same r a b e f = cc (e, f)

not-both : {A E : Type 0} (r : Result A E) (x : E) (a : A) → r ≡ Err x → r ≡ Ok a → ⊥
not-both r x a e f = cc (e, f)

-- what a frame on the air says, when it is read
pub carried-heard : (Told : Announcement → Type 0) (octets : List ℕ) (s : Spelled)
    → IsCarried Told octets → reading octets ≡ Ok s → IsHeardOf Told s.announcement
carried-heard Told octets s (inl sec) e =
    absurd (not-both (reading octets) NotMka s (sec-unread octets sec) e)
carried-heard Told octets s (inr m) e =
    let again = read_again octets m.says m.covered m.check m.spells in
    let same = ok-same (reading octets) _ s again e in
    subst (IsHeardOf Told) (ap (λ (x : Spelled). x.announcement) same)
    (spelled-heard Told octets m.says m.covered m.check m.spells m.told)

-- foreign octets that repeat a frame on the air say what that says
pub repeated-heard : (Told : Announcement → Type 0) (octets frame : List ℕ) (s : Spelled)
    → All (λ o. o < 256) octets → reading octets ≡ Ok s → IsCarried Told frame
    → same_spelling octets frame (reading octets) (reading frame) ≡ true
    → IsHeardOf Told s.announcement
repeated-heard Told octets frame s small e (inl sec) same =
    absurd (true≢false (sym (rw (e, sec-unread frame sec) at same)))
repeated-heard Told octets frame s small e (inr m) same =
    let again = read_again frame m.says m.covered m.check m.spells in
    let both = and_parts (pointwise nat_eq (take s.covered octets) (take m.covered frame))
    (pointwise nat_eq s.check m.check) (rw (e, again) at same) in
    let covers = (bytes_decides (take s.covered octets) (take m.covered frame)).0 both.0 in
    let spells = read_is_spelled octets s (IsBytes-all octets small) e in
    let one = same_covered octets frame s.announcement m.says s.covered m.covered s.check m.check
    spells m.spells covers in
    spelled-heard Told octets s.announcement s.covered s.check spells
    (subst Told (sym one.0) m.told)

-- ---- what is judged right was read

abbrev IsReadAs : List ℕ → Announcement → Type 0
IsReadAs octets a = (s : Spelled) × (reading octets ≡ Ok s) × (s.announcement ≡ a)

of-group : (setup : Setup) (octets : List ℕ) (s : Spelled) (a : Announcement)
    → of_group setup octets s ≡ Ok a → s.announcement ≡ a
of-group setup octets s a e =
    go (not (pointwise nat_eq s.announcement.ckn setup.ckn))
    (not (pointwise nat_eq s.check (cmac setup.ick (take s.covered octets)))) e
  where
    go : (b c : Bool) → cond b (Err CkName) (cond c (Err Check) (Ok s.announcement)) ≡ Ok a
        → s.announcement ≡ a
    go true c f = absurd (not-both _ CkName a refl f)
    go false true f = absurd (not-both _ Check a refl f)
    go false false f = ok-same _ s.announcement a refl f

pub judged-read : (setup : Setup) (octets : List ℕ) (a : Announcement) → judged setup octets ≡ Ok a
    → (s : Spelled) × (reading octets ≡ Ok s) × (s.announcement ≡ a)
unfolding judged
judged-read setup octets a e = go (reading octets) refl e
  where
    go : (r : Result Spelled Refusal) → reading octets ≡ r → read_as setup octets r ≡ Ok a
        → IsReadAs octets a
    go (Ok s) is f = (s, is, of-group setup octets s a f)
    go (Err refusal) is f = absurd (not-both (read_as setup octets (Err refusal)) _ a refl f)
