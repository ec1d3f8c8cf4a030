-- Who reports a key in the SAK Use of an announcement has installed it, and so has nobody reported a
-- key that is made.
use Rattle.std.proofs.Common.{◌≡◌, refl, sym, ap, ◌∙◌, subst, inl, inr, ◌⊎◌, ℕ, List, [], ◌∷◌, ◌++◌}
use Rattle.std.proofs.Common.{Bool, true, false, cond, ◌&&◌, ◌||◌, Option, Some, None, is_some}
use Rattle.std.specs.Prelude.{◌==◌, option_map}
use Rattle.std.proofs.lemmas.Bool.{and_parts, eqb-true, true≢false}
use Rattle.lan_base.specs.declared.key_id.KeyId.{KeyId}
use Rattle.lan_base.specs.Identifiers.{same_mi}
use Rattle.lan_base.specs.declared.frame.UserFrame.{UserFrame}
use Rattle.mkpdu_codec.specs.declared.announcement.Announcement.{Announcement}
use Rattle.peer_lists.specs.Acceptance.{Accepted}
use Rattle.peer_lists.specs.declared.heard.Heard.{Heard}
use Rattle.peer_lists.proofs.Public.{same_mi-equal}
use Rattle.sak_exchange.specs.declared.due.Seen.{Seen}
use Rattle.sak_exchange.specs.declared.held_key.Key.{Key}
use Rattle.sak_exchange.specs.Histories.{Keying, installs as installed_keys}
use Rattle.sak_exchange.specs.Held.{latest, old, transmitting}
use Rattle.sak_exchange.specs.Reports.{names, reports}
use Rattle.mka_station.specs.Lives.{Member, Entry, peers_of, keys_of}
use Rattle.mka_station.specs.Lives as lives
use Rattle.mka_station.specs.Views.{view}
use Rattle.mka_station.specs.Announcing.{use_of, uses_of, frame_of}
use Rattle.mka_station.specs.Tick.{ticked_past, says_at}
use Rattle.lan_core.specs.declared.event.Event.TheVariants as events
use Rattle.lan_core.specs.declared.fact.Fact.{Fact}
use Rattle.lan_core.specs.declared.settings.Settings.{Settings}
use Rattle.lan_core.specs.Run.{Run, happened}
use Rattle.lan_core.specs.Ledgers.{Install, install_of, installs, next_frame}
use Rattle.lan_core.specs.Lives.{Life, life, seen_at, sak_in}
use Rattle.lan_core.specs.Expected.{expected, tick_facts}
use Rattle.lan_core.specs.Legal.{IsStep, IsStepped}
use Rattle.lan_core.specs.Fresh.{IsUnforged}
use Rattle.lan_core.proofs.Public.{front-stepped, front-unforged}
use Rattle.group_safety.proofs.Public.{In, heard_of, told_of, accepted-told, live-accepted}
use Rattle.group_safety.proofs.Public.{some-same, latest-installed, old-installed}
use Rattle.group_safety.proofs.Public.{said-now, tick_lowest, tick_key, view-keys, tick-backed}
use Rattle.group_safety.proofs.Public.{known, IsKnown, IsLiving, IsSaid, IsSaidAt, install_by}
use Rattle.group_safety.proofs.Public.{tick-gist, IsGist, installed_at, sent_frame, installs-next}
use Rattle.group_safety.proofs.Public.{in-later, mapped}

-- ---- what a live member says was heard

uses-told : (m : Member) (p : List Entry) (x : Heard) → In x (told_of (peers_of m p))
    → (a : Announcement) × In a (heard_of p) × (x.uses ≡ a.uses)
unfolding peers_of
uses-told m [] x i = elim i [ ]
uses-told m (lives.ticked ∷ p) x i = uses-told m p x i
uses-told m (lives.sent b ∷ p) x i = uses-told m p x i
uses-told m (lives.heard b ∷ p) x (inl e) = (b, inl refl, ap (λ (w : Heard). w.uses) e)
uses-told m (lives.heard b ∷ p) x (inr i) =
    let r = uses-told m p x i in (r.0, inr r.1, r.2)
uses-told m (lives.installed r k ∷ p) x i = uses-told m p x i
uses-told m (lives.began e ∷ p) x i = uses-told m p x i

pub live-uses : (m : Member) (p : List Entry) (w : Accepted) → In w (view m p).live
    → (a : Announcement) × In a (heard_of p) × (w.told.uses ≡ a.uses)
live-uses m p w i =
    uses-told m p w.told
    (accepted-told (lives.own m) (peers_of m p) w (live-accepted m p w i))

-- ---- what is reported is held

-- a held key has this identifier
abbrev HasKey : KeyId → List Key → Type 0
HasKey id ks = (k : Key) × In k ks × (k.id ≡ id)

used-held : (id : KeyId) (sending o : Option Key) (lowest : Key → ℕ) (h : List Keying)
    → ((k : Key) → o ≡ Some k → In k (installed_keys h))
    → (names id (use_of sending lowest o) && (use_of sending lowest o).rx) ≡ true
    → HasKey id (installed_keys h)
used-held id sending None lowest h held e =
    absurd (true≢false (sym ((and_parts (names id (use_of sending lowest None)) false e).1)))
used-held id sending (Some k) lowest h held e =
    let both = and_parts (names id (use_of sending lowest (Some k))) true e in
    let parts = and_parts (same_mi k.id.server id.server) (k.id.number == id.number) both.0 in
    let server = same_mi-equal k.id.server id.server parts.0 in
    let number = eqb-true k.id.number id.number parts.1 in
    (k, held k refl, λ t. record { server = server t; number = number t })

or-either : (a b : Bool) → (a || b) ≡ true → (a ≡ true) ⊎ (b ≡ true)
or-either true b e = inl refl
or-either false b e = inr e

reported-held : (id : KeyId) (lowest : Key → ℕ) (h : List Keying)
    → reports id (uses_of lowest h) ≡ true → HasKey id (installed_keys h)
reported-held id lowest h e = go (is_some (latest h) || is_some (old h)) e
  where
    both : (names id (use_of (transmitting h) lowest (latest h))
        && (use_of (transmitting h) lowest (latest h)).rx)
        || (names id (use_of (transmitting h) lowest (old h))
        && (use_of (transmitting h) lowest (old h)).rx) ≡ true
        → HasKey id (installed_keys h)
    both e = elim (or-either _ _ e) [
      | inl newer ↦
          used-held id (transmitting h) (latest h) lowest h (latest-installed h) newer
      | inr older ↦ used-held id (transmitting h) (old h) lowest h (old-installed h) older
    ]

    go : (b : Bool)
        → reports id (cond b
        (Some (record {
          latest = use_of (transmitting h) lowest (latest h);
          old = use_of (transmitting h) lowest (old h);
        })) None) ≡ true
        → HasKey id (installed_keys h)
    go true f = both f
    go false f = absurd (true≢false (sym f))

-- ---- what was said in a run reports what was installed in it

-- an install of the run has this identifier
abbrev pub HasInstall : KeyId → Run → Type 0
HasInstall id r = (i : Install) × In i (installs r) × (i.id ≡ id)

pub later-installs : (later front : Run) (i : Install) → In i (installs front)
    → In i (installs (later ++ front))
unfolding installs
later-installs [] front i there = there
later-installs (x ∷ later) front i there =
    in-later install_of x.facts (installs (later ++ front)) i (later-installs later front i there)

later-held : (id : KeyId) (r later front : Run) → r ≡ later ++ front → HasInstall id front
    → HasInstall id r
later-held id r later front split has = (
  has.0,
  subst (λ w. In has.0 (installs w)) (sym split) (later-installs later front has.0 has.1),
  has.2,
)

-- what a tick installs stands before what was installed
pub tick-installs : (settings : Settings) (users : List UserFrame) (s next : ℕ) (f : List Fact)
    (r : Run) (l : Life)
    → IsStep settings users (happened (events.Tick s next) f) r → life settings s r ≡ Some l
    → IsGist f [] (installed_at s (tick_key l.member (seen_at settings s r l next) (sak_in f) l.past))
    (sent_frame (next_frame r) s (option_map (frame_of l.member.setup)
    (says_at l.member (seen_at settings s r l next) (sak_in f) l.past))) []
unfolding expected
tick-installs settings users s next f r l step living =
    let found = mapped (tick_facts settings s r next (sak_in f)) (life settings s r) f step.shows in
    let same : found.0 ≡ l = some-same (sym found.1 ∙ living) in
    let gist = tick-gist settings s r next (sak_in f) l in
    let shows : tick_facts settings s r next (sak_in f) l ≡ f =
    ap (tick_facts settings s r next (sak_in f)) (sym same) ∙ found.2 in
    subst (λ w. IsGist w [] (installed_at s
    (tick_key l.member (seen_at settings s r l next) (sak_in f) l.past))
    (sent_frame (next_frame r) s (option_map (frame_of l.member.setup)
    (says_at l.member (seen_at settings s r l next) (sak_in f) l.past))) []) shows gist

said-held : (settings : Settings) (users : List UserFrame) (front : Run) (s next : ℕ)
    (f : List Fact) (a : Announcement) (id : KeyId)
    → IsStep settings users (happened (events.Tick s next) f) front
    → IsStepped settings users front → IsUnforged settings front
    → IsSaidAt settings front s next f a → reports id a.uses ≡ true
    → HasInstall id (happened (events.Tick s next) f ∷ front)
said-held settings users front s next f a id step stepped unforged said reported =
    (install_by s held.0, subst (λ w. In (install_by s held.0) w) (sym grown) there, held.2)
  where
    m : Member
    m = said.by.member

    p : List Entry
    p = said.by.past

    seen : Seen
    seen = seen_at settings s front said.by next

    q : List Entry
    q = ticked_past m seen (sak_in f) p

    k : IsKnown settings users front
    k = known settings users front stepped unforged

    v : IsLiving settings front s said.by
    v = k.living s said.by said.living

    uses : uses_of (tick_lowest m seen p) (view m q).keys ≡ a.uses
    uses = ap (λ (w : Announcement). w.uses)
        (said-now m (tick_lowest m seen p) q (view m q) a said.says)

    held : HasKey id (installed_keys (keys_of m q))
    held = subst (λ h. HasKey id (installed_keys h)) (view-keys m q)
        (reported-held id (tick_lowest m seen p) (view m q).keys (ap (reports id) uses ∙ reported))

    there : In (install_by s held.0)
        (installed_at s (tick_key m seen (sak_in f) p) ++ installs front)
    there = tick-backed m seen (sak_in f) p s (installs front) v.backed held.0 held.1

    grown : installs (happened (events.Tick s next) f ∷ front)
        ≡ installed_at s (tick_key m seen (sak_in f) p) ++ installs front
    grown = installs-next (happened (events.Tick s next) f) front
        (tick-installs settings users s next f front said.by step said.living)

-- an announcement that was said in a run reports a key only if the run installed it
pub said-reports : (settings : Settings) (users : List UserFrame) (r : Run) (a : Announcement)
    (id : KeyId)
    → IsStepped settings users r → IsUnforged settings r → IsSaid settings r a
    → reports id a.uses ≡ true → HasInstall id r
said-reports settings users r a id stepped unforged said reported =
    let x = happened (events.Tick said.station said.next) said.shown in
    let both : IsStepped settings users (x ∷ said.front) = front-stepped settings users said.later
    (x ∷ said.front) (subst (IsStepped settings users) said.split stepped) in
    let honest : IsUnforged settings (x ∷ said.front) = front-unforged settings said.later
    (x ∷ said.front) (subst (IsUnforged settings) said.split unforged) in
    later-held id r said.later (x ∷ said.front) said.split
    (said-held settings users said.front said.station said.next said.shown a id both.0 both.1
    honest.1 said.at reported)
