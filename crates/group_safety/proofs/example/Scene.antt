-- A group of two stations that hears each other, step by step: what has to be shown of each event.
use Rattle.std.proofs.Common.{◌≡◌, ◌<◌, ◌≤◌, ◌+◌, ◌*◌, max, refl, sym, ap}
use Rattle.std.proofs.Common.{inl, inr, ℕ, List, [], ◌∷◌, length, map}
use Rattle.std.proofs.Common.{take, Bool, true, false, cond, not, ◌&&◌, Option, Some, None}
use Rattle.std.proofs.Common.{Ok, replicate, arith, length-append}
use Rattle.std.specs.Prelude.{nat_le, nat_lt, nat_eq, sum}
use Rattle.std.specs.Prelude.{fold, All, ◌==◌}
use Rattle.std.specs.List.{filter, list_all}
use Rattle.std.proofs.lemmas.List.Elements.{All-nil, All-cons}
use Rattle.std.proofs.lemmas.Bool.{and_parts, leb-true, ltb-true}
use lib.Pointwise.{pointwise, bytes_decides}
use Rattle.lan_base.specs.declared.address.Sci.{Sci}
use Rattle.lan_base.specs.declared.frame.UserFrame.{UserFrame}
use Rattle.aes_cmac.specs.Cmac.{cmac}
use Rattle.gcm_frames.specs.Tags.{is_sec}
use Rattle.gcm_frames.proofs.Public.{take_front}
use Rattle.mkpdu_codec.specs.declared.announcement.Announcement.{Announcement}
use Rattle.mkpdu_codec.specs.Frames.{Spells}
use Rattle.mkpdu_codec.specs.Frames.{IsOfItsTypes}
use Rattle.mkpdu_codec.specs.Reading.{reading}
use Rattle.mkpdu_codec.specs.Written.{written, IsWritable}
use Rattle.mkpdu_codec.proofs.Public.{read_again, length-covered, written_spells}
use Rattle.rx_slots.specs.Histories.{Receiving}
use Rattle.rx_slots.specs.Histories as slots
use Rattle.rx_slots.specs.Numbers.{accepted, is_under}
use Rattle.sak_exchange.specs.declared.held_key.Key.{Key}
use Rattle.sak_exchange.specs.Held.{latest, old}
use Rattle.mka_station.specs.Hearing.{judged}
use Rattle.lan_core.specs.declared.event.Event.{Event}
use Rattle.lan_core.specs.declared.event.Event.TheVariants as events
use Rattle.lan_core.specs.declared.fact.Fact.{Fact}
use Rattle.lan_core.specs.declared.fact.Fact.TheVariants as facts
use Rattle.lan_core.specs.Run.{Run, Happening, Profile, stations}
use Rattle.lan_core.specs.Ledgers.{Install, installs, Frame, air, gather}
use Rattle.lan_core.specs.Ledgers.{with_one}
use Rattle.lan_core.specs.Lives.{Life, life}
use Rattle.lan_core.specs.Lives.{reaches, receiving, slot_change, with_data, keys_in}
use Rattle.lan_core.specs.Lives.{setup_of, seen_at, lowest_under}
use Rattle.lan_core.specs.Lives.{transmitting_at}
use Rattle.lan_core.specs.Claims.{next, shown_by, after_claim, is_epoch}
use Rattle.lan_core.specs.Expected.{expected, drawn_in}
use Rattle.lan_core.specs.Order.{IsWithin, IsInOrder, ticks}
use Rattle.lan_core.specs.Types.{IsSetting}
use Rattle.lan_core.specs.Legal.{IsStepped, IsExcusedBefore, Ahead, with_ahead}
use Rattle.lan_core.specs.Legal.{is_excused_by}
use Rattle.lan_core.specs.Fresh.{IsUnforgedBy, IsUnforged}
use Rattle.group_safety.specs.worked.Group.{settings}
use Rattle.group_safety.specs.worked.Deeds.{framed_by}
use Rattle.group_safety.specs.worked.Lives.{seen}
use Rattle.group_safety.proofs.Members.{In}
use Rattle.group_safety.proofs.once.Ciphers.{cmac-length}
use Rattle.group_safety.proofs.once.Carried.{sec-unread}
use Rattle.group_safety.proofs.once.Living.{ick-key}

-- ---- the group

pub octets_of : (octets : List ℕ) → list_all (λ octet. nat_lt octet 256) octets ≡ true
    → All (λ octet. octet < 256) octets
octets_of [] are = All-nil (λ octet. octet < 256)
octets_of (octet ∷ others) are =
    let parts = and_parts (nat_lt octet 256) (list_all (λ octet. nat_lt octet 256) others) are in
    All-cons (λ octet. octet < 256) octet others (ltb-true octet 256 parts.0)
    (octets_of others parts.1)

pub set_up : IsSetting settings
set_up = record {
  cak = (refl, octets_of (replicate 16 0) refl);
  ckn = (omega arith, omega arith);
  name_octets = octets_of settings.ckn refl;
  window = omega arith;
  rekey = omega arith;
}

-- ---- a frame that is right

pub record IsSayable (a : Announcement) : Type 0 where
  pub writable : IsWritable a
  pub typed : IsOfItsTypes a
  pub named : a.ckn ≡ settings.ckn

good-spells : (p : Profile) (a : Announcement) → IsSayable a
    → Spells (framed_by p a) a (length (written a)) (cmac (setup_of settings p).ick (written a))
good-spells p a good =
    written_spells a (cmac (setup_of settings p).ick (written a)) good.writable good.typed
    (cmac-length (setup_of settings p).ick (written a) (ick-key settings p set_up))

good-read : (p : Profile) (a : Announcement) → IsSayable a
    → reading (framed_by p a)
    ≡ Ok (record {
      announcement = a;
      covered = length (written a);
      check =
          cmac (setup_of settings p).ick (written a);
    })
good-read p a good =
    read_again (framed_by p a) a (length (written a)) (cmac (setup_of settings p).ick (written a))
    (good-spells p a good)

pub sayable-unprotected : (p : Profile) (a : Announcement) → IsSayable a → is_sec (framed_by p a)
    ≡ false
sayable-unprotected p a good = go (is_sec (framed_by p a)) refl
  where
    go : (b : Bool) → is_sec (framed_by p a) ≡ b → b ≡ false
    go true e = absurd (cc (sec-unread (framed_by p a) e, good-read p a good))
    go false e = refl

pub sayable-judged : (p q : Profile) (a : Announcement) → IsSayable a
    → judged (setup_of settings q) (framed_by p a) ≡ Ok a
unfolding judged
sayable-judged p q a good =
    let front : take (length (written a)) (framed_by p a) ≡ written a =
    take_front (written a) (cmac (setup_of settings p).ick (written a)) (length (written a)) refl in
    let named : pointwise nat_eq a.ckn settings.ckn ≡ true = (bytes_decides a.ckn settings.ckn).1
    good.named in
    let checked : pointwise nat_eq (cmac (setup_of settings p).ick (written a))
    (cmac (setup_of settings q).ick (take (length (written a)) (framed_by p a))) ≡ true =
    (bytes_decides _ _).1 (ap (cmac (setup_of settings p).ick) (sym front)) in
    rw (good-read p a good, named, checked) refl

-- ---- no data reach a station

-- nothing was heard by receive slots
abbrev pub IsSilent : List Receiving → Type 0
IsSilent [] = Unit {0}
IsSilent (slots.installed an sak ∷ h) = IsSilent h
IsSilent (slots.removed an ∷ h) = IsSilent h
IsSilent (slots.heard octets ∷ h) = ⊥

silent-accepted : (own : Sci) (window : ℕ) (h : List Receiving) → IsSilent h
    → accepted own window h ≡ []
silent-accepted own window [] silent = refl
silent-accepted own window (slots.installed an sak ∷ h) silent =
    ap (filter (λ t. not (is_under an t))) (silent-accepted own window h silent)
silent-accepted own window (slots.removed an ∷ h) silent =
    ap (filter (λ t. not (is_under an t))) (silent-accepted own window h silent)
silent-accepted own window (slots.heard octets ∷ h) silent = elim silent [ ]

silent-lowest : (own : Sci) (h : List Receiving) (o : Option Key) → IsSilent h
    → lowest_under settings own h o ≡ 1
silent-lowest own h None silent = refl
silent-lowest own h (Some k) silent = rw (silent-accepted own settings.window h silent) refl

pub seen-silent : (s : ℕ) (r : Run) (l : Life) (next : ℕ) → IsSilent (receiving s r)
    → seen_at settings s r l next ≡ seen next
seen-silent s r l next silent =
    λ i. record {
      next = next;
      latest = silent-lowest l.member.setup.sci (receiving s r) (latest (keys_in l)) silent i;
      old = silent-lowest l.member.setup.sci (receiving s r) (old (keys_in l)) silent i;
    }

change-silent : (s : ℕ) (fact : Fact) (h : List Receiving) → IsSilent h
    → IsSilent (with_one (slot_change s fact) h)
change-silent s (facts.Installed station id an epoch sak) h silent = go (station == s)
  where
    go : (b : Bool) → IsSilent (with_one (cond b (Some (slots.installed an sak)) None) h)
    go true = silent
    go false = silent
change-silent s (facts.Dropped station id an) h silent = go (station == s)
  where
    go : (b : Bool) → IsSilent (with_one (cond b (Some (slots.removed an)) None) h)
    go true = silent
    go false = silent
change-silent s (facts.Retired station id an) h silent = go (station == s)
  where
    go : (b : Bool) → IsSilent (with_one (cond b (Some (slots.removed an)) None) h)
    go true = silent
    go false = silent
change-silent s fact h silent = silent

gather-silent : (s : ℕ) (f : List Fact) (h : List Receiving) → IsSilent h
    → IsSilent (gather (slot_change s) f h)
gather-silent s [] h silent = silent
gather-silent s (fact ∷ f) h silent =
    gather-silent s f (with_one (slot_change s fact) h) (change-silent s fact h silent)

-- no protected octets reach the station
abbrev pub IsPlainTo : ℕ → Run → Event → Type 0
IsPlainTo s r e = (octets : List ℕ) → reaches s r e ≡ Some octets → is_sec octets ≡ false

pub silent-next : (s : ℕ) (x : Happening) (r : Run) → IsPlainTo s r x.event
    → IsSilent (receiving s r)
    → IsSilent (receiving s (x ∷ r))
unfolding receiving
silent-next s x r none silent =
    gather-silent s x.facts (with_data (reaches s r x.event) (receiving s r))
    (go (reaches s r x.event) refl)
  where
    go : (o : Option (List ℕ)) → reaches s r x.event ≡ o → IsSilent (with_data o (receiving s r))
    go None e = silent
    go (Some octets) e = rw (none octets e) silent

-- ---- limits

abbrev IsShort : List Frame → Type 0
IsShort fs = (f : Frame) → In f fs → length f.octets ≤ 70000

short-from : (fs : List Frame) (n : ℕ) → IsShort fs
    → fold (λ a x. a + x) n (map (λ f. length f.octets) fs) ≤ n + 70000 * length fs
short-from [] n short = omega arith
short-from (f ∷ fs) n short =
    let one = short f (inl refl) in
    let rest = short-from fs (n + length f.octets) (λ g i. short g (inr i)) in
    omega (arith, one, rest)

short-sum : (fs : List Frame) → IsShort fs → sum (map (λ f. length f.octets) fs) ≤ 70000 * length fs
short-sum fs short = let whole = short-from fs 0 short in omega (arith, whole)

filter-fewer : {A : Type 0} (p : A → Bool) (xs : List A) → length (filter p xs) ≤ length xs
filter-fewer p [] = omega arith
filter-fewer p (x ∷ xs) = go (p x) (filter-fewer p xs)
  where
    go : (b : Bool) → length (filter p xs) ≤ length xs
        → length (cond b (x ∷ filter p xs) (filter p xs)) ≤ length (x ∷ xs)
    go true less = omega (arith, less)
    go false less = omega (arith, less)

-- few frames, ticks, installs and stations
abbrev pub is_few : Run → Bool
is_few r =
    nat_le (length (air r)) 100
    && (nat_le (ticks r) 100 &&
    (nat_le (length (installs r)) 100 && nat_le (length (stations r)) 2))

pub few-within : (r : Run) → IsShort (air r) → is_few r ≡ true → IsWithin r
few-within r short few =
    let a = and_parts (nat_le (length (air r)) 100) _ few in
    let b = and_parts (nat_le (ticks r) 100) _ a.1 in
    let c = and_parts (nat_le (length (installs r)) 100) _ b.1 in
    let frames = leb-true (length (air r)) 100 a.0 in
    let ticked = leb-true (ticks r) 100 b.0 in
    let installed = leb-true (length (installs r)) 100 c.0 in
    let placed = leb-true (length (stations r)) 2 c.1 in
    let octets = short-sum (air r) short in
    record {
      frames = omega (arith, frames);
      octets = omega (arith, frames, octets);
      ticks = omega (arith, ticked);
      installs = λ s. let less = filter-fewer (λ (i : Install). i.station == s) (installs r) in
          omega (arith, less, installed);
      stations = omega (arith, placed);
    }

-- the frames of an announcement are short
pub good-short : (p : Profile) (a : Announcement) → IsSayable a
    → length (framed_by p a) ≤ 70000
good-short p a good =
    let s = good-spells p a good in
    let body = s.is_frame.body in
    let whole = length-append (written a) (cmac (setup_of settings p).ick (written a)) in
    let check = cmac-length (setup_of settings p).ick (written a) (ick-key settings p set_up) in
    let covers = s.covers in
    let parts = length-covered s.parts s.is_frame in
    omega (arith, body, whole, check, covers, parts)

-- ---- packet numbers

-- no next number of a run is above this
abbrev claimed_most : List Fact → ℕ
claimed_most (facts.Claimed s an e pn ∷ f) = pn + 1
claimed_most _ = 0

abbrev pub most_by : List Fact → Event → ℕ
most_by f (events.Tick s next) = next
most_by f _ = claimed_most f

abbrev pub most_next : Run → ℕ
most_next [] = 1
most_next (x ∷ r) = max (most_by x.facts x.event) (most_next r)

chosen-most : (b : Bool) (n : ℕ) → cond b n 0 ≤ n
chosen-most true n = omega arith
chosen-most false n = omega arith

claim-most : (s epoch : ℕ) (f : List Fact) → after_claim s epoch f ≤ claimed_most f
claim-most s epoch [] = omega arith
claim-most s epoch (facts.Claimed station an e pn ∷ f) =
    chosen-most ((station == s) && (e == epoch)) (pn + 1)
claim-most s epoch (fact ∷ f) = omega arith

shown-most : (s epoch : ℕ) (r : Run) (f : List Fact) (e : Event)
    → shown_by settings s epoch r f e ≤ most_by f e
shown-most s epoch r f (events.Tick station n) =
    chosen-most ((station == s) && is_epoch epoch (transmitting_at settings s r)) n
shown-most s epoch r f (events.Start name sci priority) = claim-most s epoch f
shown-most s epoch r f (events.Deliver frame station) = claim-most s epoch f
shown-most s epoch r f (events.Restart station) = claim-most s epoch f
shown-most s epoch r f (events.Claim station user pn) = claim-most s epoch f
shown-most s epoch r f events.Emit = claim-most s epoch f
shown-most s epoch r f (events.Inject station octets) = claim-most s epoch f

pub next-most : (s epoch : ℕ) (r : Run) → next settings s epoch r ≤ most_next r
unfolding next
next-most s epoch [] = omega arith
next-most s epoch (x ∷ r) =
    let now = shown-most s epoch r x.facts x.event in
    let before = next-most s epoch r in
    omega (arith, now, before)

-- ---- a scene: a run of two stations, and the lives that they are in

abbrev pub Lives : Type 0
Lives = ℕ → Life

-- one life goes on
abbrev pub with_one_life : ℕ → Life → Lives → Lives
with_one_life s l ls t = cond (s == t) l (ls t)

pub record Scene (users : List UserFrame) (ps : List Profile) (r : Run) (ls : Lives) : Type 0 where
  pub there : stations r ≡ ps
  pub living : (s : ℕ) → s < length ps → life settings s r ≡ Some (ls s)
  pub silent : (s : ℕ) → IsSilent (receiving s r)
  pub short : (f : Frame) → In f (air r) → length f.octets ≤ 70000
  pub stepped : IsStepped settings users r
  pub excused : (ahead : Ahead) → IsExcusedBefore settings ahead r
  pub unforged : IsUnforged settings r

-- what a new event has to bring
pub record ExtendsScene (users : List UserFrame) (ps : List Profile) (x : Happening) (r : Run)
    (ls : Lives) : Type 0 where
  pub there : stations (x ∷ r) ≡ ps
  pub living : (s : ℕ) → s < length ps → life settings s (x ∷ r) ≡ Some (ls s)
  pub plain : (s : ℕ) → IsPlainTo s r x.event
  pub short : (f : Frame) → In f (air (x ∷ r)) → length f.octets ≤ 70000
  pub in_order : IsInOrder settings users r x
  pub shows : expected settings users r x.event (drawn_in x.facts) ≡ Some x.facts
  pub few : is_few (x ∷ r) ≡ true
  pub excused : (ahead : Ahead) → is_excused_by settings r ahead x.facts ≡ true
  pub honest : IsUnforgedBy settings r x.event

pub goes-on : (users : List UserFrame) (ps qs : List Profile) (x : Happening) (r : Run)
    (ls ms : Lives)
    → Scene users ps r ls → ExtendsScene users qs x r ms → Scene users qs (x ∷ r) ms
goes-on users ps qs x r ls ms v c = record {
  there = c.there;
  living = c.living;
  silent = λ s. silent-next s x r (c.plain s) (v.silent s);
  short = c.short;
  stepped = (
    record {
      setting = set_up;
      in_order = c.in_order;
      shows = c.shows;
      within =
          few-within (x ∷ r) c.short c.few;
    },
    v.stepped,
  );
  excused = λ ahead. (c.excused ahead, v.excused (with_ahead x ahead));
  unforged = (c.honest, v.unforged);
}
