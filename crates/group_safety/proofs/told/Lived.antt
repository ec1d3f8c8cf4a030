-- The lives of a run that is told, computed without its ciphers.
use Rattle.std.proofs.Common.{◌≡◌, refl, sym, ap, ◌∙◌, ℕ, List, [], ◌∷◌, Bool, true, false}
use Rattle.std.proofs.Common.{cond, Option, Some, None, length}
use Rattle.std.specs.Prelude.{◌==◌, ◌&&◌, not, option_map, option_and_then, slice_get}
use Rattle.std.specs.List.{list_all}
use Rattle.std.proofs.lemmas.Bool.{and_parts}
use Rattle.lan_base.specs.declared.address.Mi.{Mi}
use Rattle.aes_block.specs.declared.secret.Secret.{Secret}
use Rattle.mkpdu_codec.specs.declared.announcement.Announcement.{Announcement}
use Rattle.mkpdu_codec.specs.declared.given.Given.{Given}
use Rattle.sak_exchange.specs.declared.offer.Offer.{Offer}
use Rattle.sak_exchange.specs.Histories.{Keying}
use Rattle.sak_exchange.specs.Taking.{taken}
use Rattle.sak_exchange.specs.Unwrapping.{given_sak}
use Rattle.sak_exchange.proofs.Public.{by_test}
use Rattle.gcm_frames.specs.Tags.{is_sec}
use Rattle.mka_station.specs.Lives.{Member, Entry, heard}
use Rattle.mka_station.specs.Views.{view}
use Rattle.mka_station.specs.Tick.{tick_turn, with_beginning, with_install}
use Rattle.mka_station.specs.Hearing.{judged, outcome_of, key_taken, followed}
use Rattle.mka_station.specs.Hearing.{hear_turn, heard_turn, frame_turn, is_accepted, is_listed}
use Rattle.lan_core.specs.declared.event.Event.TheVariants as events
use Rattle.lan_core.specs.declared.fact.Fact.{Fact}
use Rattle.lan_core.specs.Run.{Run, Profile, stations}
use Rattle.lan_core.specs.Ledgers.{Frame, frame_at, installs_at}
use Rattle.lan_core.specs.Lives.{Life, life, life_after, lived, lived_hearing, lived_reached}
use Rattle.lan_core.specs.Lives.{setup_of}
use Rattle.lan_core.specs.Lives.{begun, drawn_mi, sak_in, lived_ticking, receiving, reaches}
use Rattle.group_safety.proofs.once.Currents.{some-same, none-some}
use Rattle.group_safety.proofs.once.Living.{group_kek}
use Rattle.group_safety.proofs.example.Scene.{sayable-unprotected, sayable-judged, IsSilent}
use Rattle.group_safety.proofs.example.Scene.{silent-next, seen-silent}
use Rattle.group_safety.specs.worked.Group.{settings, profile}
use Rattle.group_safety.specs.worked.Deeds.{Deed, tells, emits, plain, happens, run_of}
use Rattle.group_safety.specs.worked.Deeds.{whole, framed_by, carried, Paper, says, carries, on_air}
use Rattle.group_safety.specs.worked.Lives.{hidden_in, answered, heard_by, is_carried, is_silent}
use Rattle.group_safety.specs.worked.Lives.{ticked_by, reads, life_on, life_by}
use Rattle.group_safety.proofs.told.Framing.{is_bare, octets_in, frame-octets}
use Rattle.group_safety.proofs.example.Sayable.{is_good}
use Rattle.group_safety.proofs.told.Readable.{is_gift, good-is, hidden-is, carried-is-sec}

-- ---- hearing an announcement, given the SAK that it unwrapped-wrapped_sak

same-answer : (m : Member) (h : List Keying) (hidden : Option Secret) (b : Bool)
    (make : Given → Offer) (o : Option Given) → ((x : Given) → (make x).given ≡ x)
    → ((x : Given) → o ≡ Some x → given_sak m.setup.kek x.key ≡ hidden)
    → option_map (λ (w : Offer). taken m.base h w (given_sak m.setup.kek w.given.key))
    (cond b (option_map make o) None) ≡ answered m h (cond b (option_map make o) None) hidden
same-answer m h hidden false make o gives unwrapped-wrapped_sak = refl
same-answer m h hidden true make None gives unwrapped-wrapped_sak = refl
same-answer m h hidden true make (Some x) gives unwrapped-wrapped_sak =
    ap (λ k. Some (taken m.base h (make x) k))
    (ap (λ (w : Given). given_sak m.setup.kek w.key) (gives x) ∙ unwrapped-wrapped_sak x refl)

heard-is : (m : Member) (a : Announcement) (hidden : Option Secret) (p : List Entry)
    → ((x : Given) → a.given ≡ Some x → given_sak m.setup.kek x.key ≡ hidden)
    → (hear_turn m a p).past ≡ heard_by m a hidden p
unfolding hear_turn heard_by
heard-is m a hidden p unwrapped-wrapped_sak =
    let o = outcome_of m p a in
    let p1 = heard a ∷ p in
    let v1 = view m p1 in
    ap (λ answer. let p2 = with_install None (key_taken answer) p1 in
    with_beginning (followed (view m p2) o a) p2)
    (same-answer m v1.keys hidden (is_accepted o) (λ g. record {
      given = g;
      server = a.mi;
      listed = is_listed m v1.peers a;
      elected = Rattle.mka_station.specs.Views.is_server v1.server a.mi;
    }) a.given (λ x. refl) unwrapped-wrapped_sak)

-- ---- they are the run's

-- a life of the group
abbrev HasSetup : Option Life → Type 0
HasSetup None = Unit {0}
HasSetup (Some l) = (own : Profile) × (l.member.setup ≡ setup_of settings own)

begun-setup : (s : ℕ) (r : Run) (f : List Fact) (p : Profile) → HasSetup (begun settings s r f p)
begun-setup s r f p = go (drawn_mi f)
  where
    go : (o : Option Mi) → HasSetup (option_map (λ mi. record {
      member = record { setup = setup_of settings p; mi = mi; base = length (installs_at s r) };
      past = [];
    }) o)
    go None = tt
    go (Some mi) = (p, refl)

mapped-setup : (f : Life → Life) → ((l : Life) → (f l).member ≡ l.member) → (o : Option Life)
    → HasSetup o → HasSetup (option_map f o)
mapped-setup f same None h = tt
mapped-setup f same (Some l) h = (h.0, ap (λ (m : Member). m.setup) (same l) ∙ h.1)

chosen-setup : (b : Bool) (o q : Option Life) → HasSetup o → HasSetup q → HasSetup (cond b o q)
chosen-setup true o q h k = h
chosen-setup false o q h k = k

reads-same : (o : Option Paper) (l : Life) → (reads o l).member ≡ l.member
reads-same None l = refl
reads-same (Some (says t a g)) l = refl
reads-same (Some (carries pn)) l = refl

hearing-same : (octets : List ℕ) (l : Life) → (lived_hearing l octets).member ≡ l.member
hearing-same octets l = go (is_sec octets)
  where
    go : (b : Bool) → (cond b l (lived l (frame_turn l.member octets l.past))).member ≡ l.member
    go true = refl
    go false = refl

setup-on : (s : ℕ) (ds : List Deed) (d : Deed) (l : Option Life) → HasSetup l
    → HasSetup (life_on s ds d l)
setup-on s ds (tells t next f n a g) l h =
    chosen-setup (t == s) _ l (mapped-setup _ (λ w. refl) l h) h
setup-on s ds (emits n pn) l h = h
setup-on s ds (plain (events.Start name sci priority) f) l h =
    chosen-setup (length (stations (run_of ds)) == s) _ l
    (begun-setup s (run_of ds) f (record { name = name; sci = sci; priority = priority })) h
setup-on s ds (plain (events.Tick t next) f) l h =
    chosen-setup (t == s) _ l (mapped-setup _ (λ w. refl) l h) h
setup-on s ds (plain (events.Deliver n t) f) l h =
    chosen-setup (t == s) _ l
    (mapped-setup (reads (on_air ds n)) (reads-same (on_air ds n)) l h) h
setup-on s ds (plain (events.Restart t) f) l h =
    chosen-setup (t == s) _ l (again (slice_get (stations (run_of ds)) s)) h
  where
    again : (o : Option Profile) → HasSetup (option_and_then (begun settings s (run_of ds) f) o)
    again None = tt
    again (Some p) = begun-setup s (run_of ds) f p
setup-on s ds (plain (events.Claim t user pn) f) l h = h
setup-on s ds (plain events.Emit f) l h = h
setup-on s ds (plain (events.Inject t octets) f) l h = go (t == s)
  where
    go : (b : Bool) → HasSetup (lived_reached l (cond b (Some octets) None))
    go true = mapped-setup (λ w. lived_hearing w octets) (hearing-same octets) l h
    go false = h

setups : (s : ℕ) (ds : List Deed) → HasSetup (life_by s ds)
unfolding life_by
setups s [] = tt
setups s (d ∷ ds) = setup-on s ds d (life_by s ds) (setups s ds)

-- each announcement may be read
abbrev pub is_readable : Deed → Bool
is_readable (tells s next f n a g) = is_good a && is_gift g
is_readable (emits n pn) = true
is_readable (plain e f) = true

abbrev IsRead : Paper → Type 0
IsRead (says t a g) = (is_good a && is_gift g) ≡ true
IsRead (carries pn) = Unit {0}

read-at : (ds : List Deed) → list_all is_readable ds ≡ true → (n : ℕ) (w : Paper)
    → on_air ds n ≡ Some w → IsRead w
read-at [] all n w e = absurd (cc (e))
read-at (tells s next f m a g ∷ ds) all n w e =
    let p = and_parts (is_good a && is_gift g) (list_all is_readable ds) all in
    by_test (m == n)
    (λ t. let here : Some (says s a g) ≡ Some w = rw t at e in go w here p.0)
    (λ t. let there : on_air ds n ≡ Some w = rw t at e in read-at ds p.1 n w there)
  where
    go : (w : Paper) → Some (says s a g) ≡ Some w → (is_good a && is_gift g) ≡ true → IsRead w
    go (says t b h) e good =
        let x : a ≡ b = cc (e) in let y : g ≡ h = cc (e) in rw (sym x, sym y) good
    go (carries pn) e good = absurd (cc (e))
read-at (emits m pn ∷ ds) all n w e =
    by_test (m == n)
    (λ t. let here : Some (carries pn) ≡ Some w = rw t at e in go w here)
    (λ t. let there : on_air ds n ≡ Some w = rw t at e in read-at ds all n w there)
  where
    go : (w : Paper) → Some (carries pn) ≡ Some w → IsRead w
    go (says t b h) e = absurd (cc (e))
    go (carries pn) e = tt
read-at (plain x f ∷ ds) all n w e = read-at ds all n w e

-- what a frame does to a life that it reaches
reached-is : (o : Option Paper) (l : Option Life) → HasSetup l
    → ((w : Paper) → o ≡ Some w → IsRead w)
    → lived_reached l (option_map octets_in o) ≡ option_map (reads o) l
reached-is None None h read = refl
reached-is None (Some l) h read = refl
reached-is (Some w) None h read = refl
reached-is (Some (says t a g)) (Some l) h read =
    let good = and_parts (is_good a) (is_gift g) (read (says t a g) refl) in
    let is = good-is a g good.0 good.1 in
    let octets = framed_by (profile t) (whole a g) in
    let right = ap (λ w. judged w octets) h.1 ∙ sayable-judged (profile t) h.0 (whole a g) is in
    let kek : l.member.setup.kek ≡ group_kek settings = ap (λ w. w.kek) h.1 in
    ap Some (ap (λ b. cond b l (lived l (frame_turn l.member octets l.past)))
    (sayable-unprotected (profile t) (whole a g) is)
    ∙ ap (λ j. lived l (heard_turn l.member j l.past)) right
    ∙ ap (λ w. record l { past = w }) (heard-is l.member (whole a g) (hidden_in g) l.past
    (λ x e. ap (λ k. given_sak k x.key) kek ∙ hidden-is g good.1 x e)))
reached-is (Some (carries pn)) (Some l) h read =
    ap (λ b. Some (cond b l (lived l (frame_turn l.member (carried pn) l.past))))
    (carried-is-sec pn)

-- a station that no protected frame reached is shown what it begins with
silent-on : (s : ℕ) (ds : List Deed) (d : Deed)
    → ((octets : List ℕ) → reaches s (run_of ds) (happens d).event ≡ Some octets
    → is_sec octets ≡ false)
    → IsSilent (receiving s (run_of ds)) → IsSilent (receiving s (run_of (d ∷ ds)))
silent-on s ds d plainly before = silent-next s (happens d) (run_of ds) plainly before

silent-at-first : (s : ℕ) → IsSilent (receiving s [])
unfolding receiving
silent-at-first s = tt

silent-is : (s : ℕ) (ds : List Deed) → list_all is_bare ds ≡ true
    → list_all is_readable ds ≡ true → is_silent s ds ≡ true → IsSilent (receiving s (run_of ds))
silent-is s [] bare read silent = silent-at-first s
silent-is s (tells t next f n a g ∷ ds) bare read silent =
    silent-on s ds (tells t next f n a g) (λ octets e. absurd (none-some e))
    (silent-is s ds (and_parts (list_all _ f) (list_all is_bare ds) bare).1
    (and_parts (is_good a && is_gift g) (list_all is_readable ds) read).1 silent)
silent-is s (emits n pn ∷ ds) bare read silent =
    silent-on s ds (emits n pn) (λ octets e. absurd (none-some e)) (silent-is s ds bare read silent)
silent-is s (plain (events.Deliver n t) f ∷ ds) bare read silent =
    let bare_then = (and_parts (list_all _ f) (list_all is_bare ds) bare).1 in
    let parts = and_parts (not ((t == s) && is_carried (on_air ds n))) (is_silent s ds) silent in
    silent-on s ds (plain (events.Deliver n t) f)
    (λ octets e. go (t == s) (on_air ds n) parts.0 (read-at ds read n)
    (option_map (λ (y : Frame). y.octets) (frame_at (run_of ds) n))
    (frame-octets ds bare_then n) octets e)
    (silent-is s ds bare_then read parts.1)
  where
    go : (b : Bool) (o : Option Paper) → not (b && is_carried o) ≡ true
        → ((w : Paper) → o ≡ Some w → IsRead w)
        → (q : Option (List ℕ)) → q ≡ option_map octets_in o
        → (octets : List ℕ) → cond b q None ≡ Some octets → is_sec octets ≡ false
    go false o c r q same octets e = absurd (none-some e)
    go true None c r q same octets e = absurd (cc (c))
    go true (Some (carries pn)) c r q same octets e = absurd (cc (c))
    go true (Some (says u a g)) c r q same octets e =
        let good = and_parts (is_good a) (is_gift g) (r (says u a g) refl) in
        ap is_sec (sym (some-same (sym same ∙ e)))
        ∙ sayable-unprotected (profile u) (whole a g) (good-is a g good.0 good.1)
silent-is s (plain (events.Start name sci priority) f ∷ ds) bare read silent =
    silent-on s ds (plain (events.Start name sci priority) f) (λ octets e. absurd (none-some e))
    (silent-is s ds (and_parts (list_all _ f) (list_all is_bare ds) bare).1 read silent)
silent-is s (plain (events.Tick t next) f ∷ ds) bare read silent =
    silent-on s ds (plain (events.Tick t next) f) (λ octets e. absurd (none-some e))
    (silent-is s ds (and_parts (list_all _ f) (list_all is_bare ds) bare).1 read silent)
silent-is s (plain (events.Restart t) f ∷ ds) bare read silent =
    silent-on s ds (plain (events.Restart t) f) (λ octets e. absurd (none-some e))
    (silent-is s ds (and_parts (list_all _ f) (list_all is_bare ds) bare).1 read silent)
silent-is s (plain (events.Claim t user pn) f ∷ ds) bare read silent =
    silent-on s ds (plain (events.Claim t user pn) f) (λ octets e. absurd (none-some e))
    (silent-is s ds (and_parts (list_all _ f) (list_all is_bare ds) bare).1 read silent)
silent-is s (plain events.Emit f ∷ ds) bare read silent =
    silent-on s ds (plain events.Emit f) (λ octets e. absurd (none-some e))
    (silent-is s ds (and_parts (list_all _ f) (list_all is_bare ds) bare).1 read silent)
silent-is s (plain (events.Inject t octets) f ∷ ds) bare read silent = absurd (cc (silent))

-- what a tick does to a life
ticked-is : (s : ℕ) (ds : List Deed) (t next : ℕ) (f : List Fact) → list_all is_bare ds ≡ true
    → list_all is_readable ds ≡ true → (l : Option Life)
    → cond (t == s) (option_map (lived_ticking settings s (run_of ds) next (sak_in f)) l) l
    ≡ cond (t == s) (option_map (ticked_by s ds next f) l) l
ticked-is s ds t next f bare read None = refl
ticked-is s ds t next f bare read (Some l) =
    ap (λ w. cond (t == s) (Some (lived l (tick_turn l.member w (sak_in f) l.past))) (Some l))
    (by_test (is_silent s ds)
    (λ e. seen-silent s (run_of ds) l next (silent-is s ds bare read e) ∙ rw e refl)
    (λ e. rw e refl))

pub life-is : (s : ℕ) (ds : List Deed) → list_all is_bare ds ≡ true
    → list_all is_readable ds ≡ true → life settings s (run_of ds) ≡ life_by s ds
unfolding life life_by
life-is s [] bare read = refl
life-is s (tells t next f n a g ∷ ds) bare read =
    let bare_then = (and_parts (list_all _ f) (list_all is_bare ds) bare).1 in
    let read_then = (and_parts (is_good a && is_gift g) (list_all is_readable ds) read).1 in
    ap (life_after settings s (run_of ds) (happens (tells t next f n a g)).facts
    (events.Tick t next)) (life-is s ds bare_then read_then)
    ∙ ticked-is s ds t next (happens (tells t next f n a g)).facts bare_then read_then
    (life_by s ds)
life-is s (emits n pn ∷ ds) bare read = life-is s ds bare read
life-is s (plain (events.Start name sci priority) f ∷ ds) bare read =
    ap (life_after settings s (run_of ds) f (events.Start name sci priority))
    (life-is s ds (and_parts (list_all _ f) (list_all is_bare ds) bare).1 read)
life-is s (plain (events.Tick t next) f ∷ ds) bare read =
    let bare_then = (and_parts (list_all _ f) (list_all is_bare ds) bare).1 in
    ap (life_after settings s (run_of ds) f (events.Tick t next)) (life-is s ds bare_then read)
    ∙ ticked-is s ds t next f bare_then read (life_by s ds)
life-is s (plain (events.Deliver n t) f ∷ ds) bare read =
    let bare_then = (and_parts (list_all _ f) (list_all is_bare ds) bare).1 in
    ap (λ l. life_after settings s (run_of ds) f (events.Deliver n t) l)
    (life-is s ds bare_then read)
    ∙ go (t == s) (option_map (λ (y : Frame). y.octets) (frame_at (run_of ds) n))
    (frame-octets ds bare_then n)
  where
    go : (b : Bool) (o : Option (List ℕ)) → o ≡ option_map octets_in (on_air ds n)
        → lived_reached (life_by s ds) (cond b o None)
        ≡ cond b (option_map (reads (on_air ds n)) (life_by s ds)) (life_by s ds)
    go true o e = ap (lived_reached (life_by s ds)) e
        ∙ reached-is (on_air ds n) (life_by s ds) (setups s ds) (read-at ds read n)
    go false o e = refl
life-is s (plain (events.Restart t) f ∷ ds) bare read =
    ap (life_after settings s (run_of ds) f (events.Restart t))
    (life-is s ds (and_parts (list_all _ f) (list_all is_bare ds) bare).1 read)
life-is s (plain (events.Claim t user pn) f ∷ ds) bare read =
    life-is s ds (and_parts (list_all _ f) (list_all is_bare ds) bare).1 read
life-is s (plain events.Emit f ∷ ds) bare read =
    life-is s ds (and_parts (list_all _ f) (list_all is_bare ds) bare).1 read
life-is s (plain (events.Inject t octets) f ∷ ds) bare read =
    ap (life_after settings s (run_of ds) f (events.Inject t octets))
    (life-is s ds (and_parts (list_all _ f) (list_all is_bare ds) bare).1 read)
