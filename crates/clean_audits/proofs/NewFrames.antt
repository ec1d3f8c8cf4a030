-- A protected frame of a run is new: no right frame before it has its key, sender and packet number.
use Rattle.std.proofs.Common.{◌≡◌, ◌<◌, ◌≤◌, refl, sym, ap, ◌∙◌, subst, inl, inr, ℕ, List, [], ◌∷◌, ◌++◌, length}
use Rattle.std.proofs.Common.{Bool, true, false, cond, Some, None, arith}
use Rattle.std.specs.Prelude.{◌==◌, slice_get}
use Rattle.std.specs.List.{filter}
use Rattle.std.specs.Option.{option_or}
use Rattle.std.proofs.lemmas.Bool.{and_parts, eqb-true}
use lib.Pointwise.{bytes_decides}
use Rattle.lan_base.specs.Identifiers.{same_sci}
use Rattle.lan_base.specs.declared.address.Sci.{Sci}
use Rattle.lan_base.specs.declared.frame.UserFrame.{UserFrame}
use Rattle.known_keys.specs.History.{Entry, keys}
use Rattle.known_keys.specs.Numbered.{number_in}
use Rattle.use_notes.specs.declared.frame.RightFrame.{RightFrame}
use Rattle.use_notes.specs.declared.novelty.Novelty.TheVariants.{New}
use Rattle.use_notes.specs.Frames.{first_alike, first_of, frames_of, is_of, note_here, note_of, novelty_after, novelty_in}
use Rattle.sak_exchange.proofs.Public.{by_test}
use Rattle.lan_core.specs.declared.settings.Settings.{Settings}
use Rattle.lan_core.specs.Run.{Happening, Profile, Run, started, stations}
use Rattle.lan_core.specs.Ledgers.{emitted, installs}
use Rattle.lan_core.specs.Claims.{claimed, claimed_by, Waiting}
use Rattle.lan_core.specs.Counted.{AreCounted}
use Rattle.group_safety.proofs.Public.{claimed-next, get-more, In, known, place-apart}
use Rattle.clean_audits.proofs.Claimed.{apart}
use Rattle.clean_audits.proofs.Gifts.{IsSound}
use Rattle.clean_audits.proofs.Told.{number-stays, same-number}

-- a right frame is that of a claim that was emitted
pub record IsUsed (settings : Settings) (r : Run) (told : List Entry) (e : RightFrame) : Type 0 where
  pub place : ℕ
  pub claim : Waiting
  pub profile : Profile
  pub emitted_then : place < length (emitted r)
  pub claimed_there : slice_get (claimed settings r) place ≡ Some claim
  pub at : slice_get (stations r) claim.station ≡ Some profile
  pub number : number_in (keys told) claim.key.sak ≡ Some e.key
  pub sci : profile.sci ≡ e.sci
  pub pn : claim.pn ≡ e.pn

-- ---- what an event leaves

pub stations-next : (x : Happening) (r : Run) → stations (x ∷ r) ≡ stations r ++ started x.event
unfolding stations
stations-next x r = refl

-- one entry more
pub used-told : (settings : Settings) (r : Run) (told : List Entry) (entry : Entry) (e : RightFrame)
    → IsUsed settings r told e → IsUsed settings r (entry ∷ told) e
used-told settings r told entry e u = record {
  place = u.place;
  claim = u.claim;
  profile = u.profile;
  emitted_then = u.emitted_then;
  claimed_there = u.claimed_there;
  at = u.at;
  number = number-stays told entry u.claim.key.sak e.key u.number;
  sci = u.sci;
  pn = u.pn;
}

pub used-later : (settings : Settings) (x : Happening) (r : Run) (told : List Entry) (e : RightFrame)
    → length (emitted r) ≤ length (emitted (x ∷ r)) → IsUsed settings r told e
    → IsUsed settings (x ∷ r) told e
used-later settings x r told e more u =
    let before = u.emitted_then in
    record {
      place = u.place;
      claim = u.claim;
      profile = u.profile;
      emitted_then = omega (arith, before, more);
      claimed_there = subst (λ ws. slice_get ws u.place ≡ Some u.claim) (sym (claimed-next settings x r))
          (get-more (claimed settings r) (claimed_by settings r x.event) u.place u.claim u.claimed_there);
      at = subst (λ ps. slice_get ps u.claim.station ≡ Some u.profile) (sym (stations-next x r))
          (get-more (stations r) (started x.event) u.claim.station u.profile u.at);
      number = u.number;
      sci = u.sci;
      pn = u.pn;
    }

-- ---- a new frame

none-first : (pn : ℕ) (fs : List RightFrame) → ((e : RightFrame) → In e fs → e.pn ≡ pn → ⊥)
    → first_of pn fs ≡ None
none-first pn [] other = refl
none-first pn (e ∷ fs) other =
    let apart : (e.pn == pn) ≡ false = by_test (e.pn == pn)
    (λ y. absurd (other e (inl refl) (eqb-true e.pn pn y))) (λ y. y) in
    ap (λ o. option_or o (note_here pn e)) (none-first pn fs (λ n i. other n (inr i)))
    ∙ ap (λ b. cond b (Some (note_of e)) None) apart

in-filtered : {A : Type 0} (p : A → Bool) (xs : List A) (x : A) → In x (filter p xs)
    → In x xs × (p x ≡ true)
in-filtered p [] x i = elim i [ ]
in-filtered {A} p (y ∷ ys) x i = go (p y) refl i (in-filtered p ys x)
  where
    go : (b : Bool) → p y ≡ b → In x (cond b (y ∷ filter p ys) (filter p ys))
        → (In x (filter p ys) → In x ys × (p x ≡ true)) → In x (y ∷ ys) × (p x ≡ true)
    go true is (inl same) later = (inl same, ap p same ∙ is)
    go true is (inr j) later = let r = later j in (inr r.0, r.1)
    go false is j later = let r = later j in (inr r.0, r.1)

same-sci-equal : (s t : Sci) → same_sci s t ≡ true → s ≡ t
same-sci-equal s t e = let octets = (bytes_decides s.0 t.0).0 e in λ i. record { 0 = octets i }

pub new-frame : (h : List RightFrame) (e : RightFrame)
    → ((f : RightFrame) → In f h → f.key ≡ e.key → f.sci ≡ e.sci → f.pn ≡ e.pn → ⊥)
    → novelty_in h e ≡ New
new-frame h e other =
    ap (λ o. novelty_after o (first_alike e.pn e.check (frames_of e.key e.sci h)))
    (none-first e.pn (frames_of e.key e.sci h) (λ f i same.
    let both = in-filtered (is_of e.key e.sci) h f i in
    let parts = and_parts (f.key == e.key) (same_sci f.sci e.sci) both.1 in
    other f both.0 (eqb-true f.key e.key parts.0) (same-sci-equal f.sci e.sci parts.1) same))

-- no claim that was emitted before uses the number of the one that waits
pub none-used : (settings : Settings) (users : List UserFrame) (r : Run) (told : List Entry)
    (w : Waiting) (p : Profile) (number : ℕ) (e : RightFrame)
    → IsSound settings users r → AreCounted (installs r)
    → slice_get (claimed settings r) (length (emitted r)) ≡ Some w
    → slice_get (stations r) w.station ≡ Some p → number_in (keys told) w.key.sak ≡ Some number
    → IsUsed settings r told e → e.key ≡ number → e.sci ≡ p.sci → e.pn ≡ w.pn → ⊥
none-used settings users r told w p number e sound counted waits at numbered used key sci pn =
    let k = known settings users r sound.stepped sound.unforged in
    let station = place-apart (λ (q : Profile). q.sci) (stations r) used.claim.station w.station
    used.profile p k.plain.apart used.at at (used.sci ∙ sci) in
    let sak = same-number 1 (keys told) used.claim.key.sak w.key.sak number
    (used.number ∙ ap (λ n. Some n) key) numbered in
    apart settings users r used.place (length (emitted r)) used.claim w sound.stepped sound.fresh
    sound.unforged counted used.claimed_there waits used.emitted_then station sak (used.pn ∙ pn)
