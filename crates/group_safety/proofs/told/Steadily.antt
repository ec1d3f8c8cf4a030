-- What makes a rollover of a run that is told steady, decided.
use Rattle.std.proofs.Common.{◌≡◌, ◌<◌, ◌+◌, refl, sym, ap, ◌∙◌, subst, inl, ℕ, zero, suc}
use Rattle.std.proofs.Common.{List, [], ◌∷◌, ◌++◌, Bool, true, false, cond, not, Option, Some, None}
use Rattle.std.proofs.Common.{length, is_some, arith}
use Rattle.std.specs.Prelude.{◌==◌, ◌&&◌, ◌||◌, nat_lt, nat_le, Contains}
use Rattle.std.specs.List.{list_all}
use Rattle.std.proofs.lemmas.Bool.{and_parts, eqb-true, eq-eqb, leb-true}
use Rattle.std.proofs.lemmas.List.Elements.{Contains-push}
use Rattle.lan_base.specs.declared.association_number.AssociationNumber.{AssociationNumber}
use Rattle.lan_base.specs.declared.address.Mi.{Mi}
use Rattle.lan_base.specs.declared.key_id.KeyId.{KeyId}
use Rattle.lan_base.specs.Identifiers.{same_mi}
use Rattle.mkpdu_codec.specs.declared.announcement.Announcement.{Announcement}
use Rattle.peer_lists.specs.Acceptance.{Accepted}
use Rattle.peer_lists.proofs.Public.{same_mi-equal, same_mi-itself}
use Rattle.sak_exchange.proofs.Public.{by_test}
use Rattle.mka_station.specs.Announcing.{same_option}
use Rattle.mka_station.specs.Hearing.{right}
use Rattle.mka_station.specs.Lives.{live_words, peers_of}
use Rattle.lan_core.specs.declared.event.Event.TheVariants as events
use Rattle.lan_core.specs.declared.fact.Fact.{Fact}
use Rattle.lan_core.specs.declared.fact.Fact.TheVariants as facts
use Rattle.lan_core.specs.Run.{Run, Happening, happened, Profile, stations}
use Rattle.aes_block.specs.declared.secret.Secret.{Secret}
use Rattle.sak_exchange.specs.declared.change.Cause.{Cause}
use Rattle.sak_exchange.specs.Reports.{reports_old}
use Rattle.lan_core.specs.Lives.{Life, life, setup_of}
use Rattle.group_safety.specs.Moments.{upto, At}
use Rattle.group_safety.specs.Rounds.{is_among}
use Rattle.group_safety.specs.Stations.{mi_at, mi_of, server_at, server_of}
use Rattle.group_safety.specs.Steady.{Begins, Makes, Sends, Rollover, IsListener, IsKeeper, Trusts}
use Rattle.group_safety.proofs.Members.{In, contains-in, in-contains, in-left, all-in, by_sum}
use Rattle.group_safety.proofs.once.Currents.{some-same}
use Rattle.group_safety.proofs.rollover.AtMoments.{upto-whole, upto-earlier}
use Rattle.group_safety.proofs.example.Each.{Each, each-at, Along, along-at, frames_none}
use Rattle.group_safety.proofs.example.Each.{frames_none-framed, last-frame_says, sayable-right}
use Rattle.group_safety.specs.worked.Group.{settings, profile}
use Rattle.group_safety.specs.worked.Deeds.{Deed, tells, emits, plain, happens, run_of, whole}
use Rattle.group_safety.specs.worked.Deeds.{told, framed_by}
use Rattle.group_safety.specs.worked.Lives.{life_by}
use Rattle.group_safety.proofs.told.Framing.{is_bare}
use Rattle.group_safety.proofs.example.Sayable.{is_good}
use Rattle.group_safety.proofs.told.Readable.{is_gift, good-is}
use Rattle.group_safety.proofs.told.Lived.{life-is, is_readable}

-- ---- moments

pub run-length : (ds : List Deed) → length (run_of ds) ≡ length ds
run-length [] = refl
run-length (d ∷ ds) = ap suc (run-length ds)

-- the deed that comes at a moment
unfoldable pub deed_at : ℕ → List Deed → Option Deed
deed_at n [] = None
deed_at n (d ∷ ds) = cond (length ds == n) (Some d) (deed_at n ds)

pub deed-at : (n : ℕ) (ds : List Deed) (d : Deed) → deed_at n ds ≡ Some d
    → At (run_of ds) n (happens d) × (n < length (run_of ds))
unfolding deed_at
deed-at n [] d e = absurd (cc (e))
deed-at n (c ∷ ds) d e =
    let same = run-length ds in
    by_test (length ds == n)
    (λ t. let here : length ds ≡ n = eqb-true (length ds) n t in
    let one : Some c ≡ Some d = rw t at e in
    let this : c ≡ d = some-same one in (
      upto-whole (suc n) (happens c ∷ run_of ds) (omega (arith, here, same))
          ∙ ap (λ (q : Run). happens c ∷ q)
          (sym (upto-earlier n (happens c) (run_of ds) (omega (arith, here, same))
          ∙ upto-whole n (run_of ds) (omega (arith, here, same))))
          ∙ ap (λ w. happens w ∷ upto n (happens c ∷ run_of ds)) this,
      omega (arith, here, same),
    ))
    (λ t. let there : deed_at n ds ≡ Some d = rw t at e in
    let on = deed-at n ds d there in
    let low = on.1 in (
      upto-earlier (suc n) (happens c) (run_of ds) (omega (arith, low)) ∙ on.0
          ∙ ap (λ (q : Run). happens d ∷ q)
          (sym (upto-earlier n (happens c) (run_of ds) (omega (arith, low)))),
      omega (arith, low),
    ))

-- what was told up to a moment
unfoldable pub told_upto : ℕ → List Deed → List Deed
told_upto n [] = []
told_upto n (d ∷ ds) = cond (nat_lt (length ds) n) (d ∷ ds) (told_upto n ds)

pub run-upto : (n : ℕ) (ds : List Deed) → upto n (run_of ds) ≡ run_of (told_upto n ds)
unfolding upto told_upto
run-upto n [] = refl
run-upto n (d ∷ ds) = rw (run-length ds)
    (by_test (nat_lt (length ds) n) (λ e. rw e refl) (λ e. rw e (run-upto n ds)))

-- ---- who trusts alice

abbrev pub is_trusting : ℕ → List Deed → Bool
is_trusting t ds = same_option same_mi (server_of (life_by t ds)) (mi_of (life_by 0 ds))

-- now, and before each of so many last events
abbrev pub is_trusting_on : ℕ → ℕ → List Deed → Bool
is_trusting_on t zero ds = is_trusting t ds
is_trusting_on t (suc k) [] = is_trusting t []
is_trusting_on t (suc k) (d ∷ ds) = is_trusting t (d ∷ ds) && is_trusting_on t k ds

same-option : (a b : Option Mi) → same_option same_mi a b ≡ true → a ≡ b
same-option None None e = refl
same-option None (Some n) e = absurd (cc (e))
same-option (Some m) None e = absurd (cc (e))
same-option (Some m) (Some n) e = ap Some (same_mi-equal m n e)

abbrev pub Trusted : ℕ → Run → Type 0
Trusted t r = server_at settings t r ≡ mi_at settings 0 r

trusting-is : (t : ℕ) (ds : List Deed) → list_all is_bare ds ≡ true
    → list_all is_readable ds ≡ true → is_trusting t ds ≡ true → Trusted t (run_of ds)
unfolding server_at mi_at
trusting-is t ds bare read e =
    ap server_of (life-is t ds bare read) ∙ same-option _ _ e
    ∙ sym (ap mi_of (life-is 0 ds bare read))

trusting-on-is : (t k : ℕ) (ds : List Deed) → list_all is_bare ds ≡ true
    → list_all is_readable ds ≡ true → is_trusting_on t k ds ≡ true
    → Along (Trusted t) k (run_of ds)
trusting-on-is t zero ds bare read e = trusting-is t ds bare read e
trusting-on-is t (suc k) [] bare read e = trusting-is t [] bare read e
trusting-on-is t (suc k) (d ∷ ds) bare read e =
    let p = and_parts (is_trusting t (d ∷ ds)) (is_trusting_on t k ds) e in (
      trusting-is t (d ∷ ds) bare read p.0,
      trusting-on-is t k ds (and_parts (is_bare d) (list_all is_bare ds) bare).1
          (and_parts (is_readable d) (list_all is_readable ds) read).1 p.1,
    )

pub trusts-from : (t a k : ℕ) (ds : List Deed) → list_all is_bare ds ≡ true
    → list_all is_readable ds ≡ true → is_trusting_on t k ds ≡ true
    → nat_le (length ds) (a + k) ≡ true → Trusts settings (run_of ds) t 0 a
trusts-from t a k ds bare read e long = record {
  on = λ n late within.
      let same = run-length ds in let far = leb-true (length ds) (a + k) long in
      along-at (Trusted t) k (run_of ds) (trusting-on-is t k ds bare read e) n
      (omega (arith, late, same, far)) within;
}

-- ---- who said what

-- no frame of key agreement but what is told
abbrev pub is_hushed : Deed → Bool
is_hushed (tells s next f n a g) = frames_none f
is_hushed (emits n pn) = true
is_hushed (plain e f) = frames_none f

abbrev pub Place : Type 0
Place = ℕ × ℕ

-- who says what stands under a member's number is at this place: this station, in this event
abbrev pub is_said_at : Place → Mi → ℕ → List Deed → Bool
is_said_at at mi mn [] = true
is_said_at at mi mn (tells s next f n a g ∷ ds) =
    (not (same_mi a.mi mi && (a.mn == mn)) || ((s == at.0) && (length ds == at.1)))
    && is_said_at at mi mn ds
is_said_at at mi mn (emits n pn ∷ ds) = is_said_at at mi mn ds
is_said_at at mi mn (plain e f ∷ ds) = is_said_at at mi mn ds

abbrev IsAt : Place → Mi → ℕ → ℕ → Happening → Type 0
IsAt at mi mn n x = (m t : ℕ) (octets : List ℕ) (q : Profile) (a : Announcement)
    → In (facts.Framed m t false octets) x.facts → right (setup_of settings q) octets ≡ Some a
    → a.mi ≡ mi → a.mn ≡ mn → (t ≡ at.0) × (n ≡ at.1)

placed : (at : Place) (mi : Mi) (mn s n : ℕ) (a : Announcement)
    → (not (same_mi a.mi mi && (a.mn == mn)) || ((s == at.0) && (n == at.1))) ≡ true
    → a.mi ≡ mi → a.mn ≡ mn → (s ≡ at.0) × (n ≡ at.1)
placed at mi mn s n a e is_mi is_mn =
    let mine : same_mi a.mi mi ≡ true = ap (same_mi a.mi) (sym is_mi) ∙ same_mi-itself a.mi in
    let numbered : (a.mn == mn) ≡ true = rw is_mn (eq-eqb mn mn refl) in
    let both : ((s == at.0) && (n == at.1)) ≡ true = rw (mine, numbered) at e in
    let p = and_parts (s == at.0) (n == at.1) both in
    (eqb-true s at.0 p.0, eqb-true n at.1 p.1)

each-placed : (at : Place) (mi : Mi) (mn : ℕ) (ds : List Deed) → list_all is_hushed ds ≡ true
    → list_all is_readable ds ≡ true → is_said_at at mi mn ds ≡ true
    → Each (IsAt at mi mn) (run_of ds)
each-placed at mi mn [] hushed read said = tt
each-placed at mi mn (tells s next f n a g ∷ ds) hushed read said =
    let p = and_parts _ (is_said_at at mi mn ds) said in
    let quiet = and_parts (frames_none f) (list_all is_hushed ds) hushed in
    let good = and_parts (is_good a && is_gift g) (list_all is_readable ds) read in
    let mine = and_parts (is_good a) (is_gift g) good.0 in (
      (λ m t octets q b i spelled is_mi is_mn.
          let parts = last-frame_says f n s (profile s) (whole a g) quiet.0
          (good-is a g mine.0 mine.1) m t octets q b i spelled in
          let here = placed at mi mn s (length ds) a p.0
          (sym (ap (λ (w : Announcement). w.mi) parts.1) ∙ is_mi)
          (sym (ap (λ (w : Announcement). w.mn) parts.1) ∙ is_mn) in
          (parts.0 ∙ here.0, run-length ds ∙ here.1)),
      each-placed at mi mn ds quiet.1 good.1 p.1,
    )
each-placed at mi mn (emits n pn ∷ ds) hushed read said = (
  (λ m t octets q b i spelled is_mi is_mn. by_sum i (λ e. absurd (cc (e))) (λ j. elim j [ ])),
  each-placed at mi mn ds hushed read said,
)
each-placed at mi mn (plain e f ∷ ds) hushed read said =
    let quiet = and_parts (frames_none f) (list_all is_hushed ds) hushed in (
      (λ m t octets q b i spelled is_mi is_mn. absurd (frames_none-framed f quiet.0 m t octets i)),
      each-placed at mi mn ds quiet.1 read said,
    )

pub sender-is : (at : Place) (mi : Mi) (mn : ℕ) (ds : List Deed) → list_all is_hushed ds ≡ true
    → list_all is_readable ds ≡ true → is_said_at at mi mn ds ≡ true
    → (t sent : ℕ) (a : Announcement) → Sends settings (run_of ds) sent t a
    → a.mi ≡ mi → a.mn ≡ mn → (t ≡ at.0) × (sent ≡ at.1)
sender-is at mi mn ds hushed read said t sent a s is_mi is_mn =
    each-at (IsAt at mi mn) (run_of ds) (each-placed at mi mn ds hushed read said) sent s.event
    s.at s.within s.number t s.octets s.profile a (contains-in s.event.facts _ s.fact) s.spelled
    is_mi is_mn

-- ---- listeners

-- what live members say to a station
abbrev pub words_of : Option Life → List Accepted
words_of None = []
words_of (Some l) = live_words l.member (peers_of l.member l.past)

-- what holds of each word holds of what a listener says
pub listener-word : (p : Accepted → Bool) (ds : List Deed) (o : Rollover) (t sent : ℕ)
    (says : Accepted) → list_all is_bare (told_upto (suc o.start) ds) ≡ true
    → list_all is_readable (told_upto (suc o.start) ds) ≡ true
    → list_all p (words_of (life_by o.server (told_upto (suc o.start) ds))) ≡ true
    → IsListener settings (run_of ds) o t sent says → p says ≡ true
listener-word p ds o t sent says bare read all l =
    let then = told_upto (suc o.start) ds in
    let lives : life_by o.server then ≡ Some l.server_life =
    sym (life-is o.server then bare read)
    ∙ ap (life settings o.server) (sym (run-upto (suc o.start) ds)) ∙ l.living in
    all-in p (words_of (Some l.server_life)) (ap (λ w. list_all p (words_of w)) (sym lives) ∙ all)
    says (contains-in (words_of (Some l.server_life)) says l.live)

-- ---- what comes at a moment

abbrev pub happening : Option Deed → Happening
happening None = happened events.Emit []
happening (Some d) = happens d

-- its facts, without the frame that it puts on the air
abbrev pub facts_in : Option Deed → List Fact
facts_in None = []
facts_in (Some (tells s next f n a g)) = f
facts_in (Some (emits n pn)) = []
facts_in (Some (plain e f)) = f

pub comes : (n : ℕ) (ds : List Deed) → is_some (deed_at n ds) ≡ true
    → At (run_of ds) n (happening (deed_at n ds)) × (n < length (run_of ds))
comes n ds e = go (deed_at n ds) refl e
  where
    go : (o : Option Deed) → deed_at n ds ≡ o → is_some o ≡ true
        → At (run_of ds) n (happening o) × (n < length (run_of ds))
    go None same e = absurd (cc (e))
    go (Some d) same e = deed-at n ds d same

pub shown : (o : Option Deed) (y : Fact) → In y (facts_in o) → In y (happening o).facts
shown None y i = i
shown (Some (tells s next f n a g)) y i = in-left f (told n s a g ∷ []) y i
shown (Some (emits n pn)) y i = elim i [ ]
shown (Some (plain e f)) y i = i

pub begins-at : (n s : ℕ) (an : AssociationNumber) (epoch : ℕ) (i : KeyId) (c : Cause)
    (ds : List Deed)
    → is_some (deed_at n ds) ≡ true
    → In (facts.Began s i an epoch c) (facts_in (deed_at n ds)) → Begins (run_of ds) n s i c
begins-at n s an epoch i c ds here fact =
    let at = comes n ds here in
    record {
      event = happening (deed_at n ds);
      at = at.0;
      within = at.1;
      an = an;
      epoch = epoch;
      fact = in-contains (happening (deed_at n ds)).facts (facts.Began s i an epoch c)
          (shown (deed_at n ds) (facts.Began s i an epoch c) fact);
    }

pub makes-at : (n s : ℕ) (an : AssociationNumber) (epoch next : ℕ) (i : KeyId) (k : Secret)
    (ds : List Deed)
    → is_some (deed_at n ds) ≡ true
    → (happening (deed_at n ds)).event ≡ events.Tick s next
    → In (facts.Installed s i an epoch k) (facts_in (deed_at n ds)) → Makes (run_of ds) n s i
makes-at n s an epoch next i k ds here tick fact =
    let at = comes n ds here in
    record {
      event = happening (deed_at n ds);
      at = at.0;
      within = at.1;
      next = next;
      tick = tick;
      an = an;
      epoch = epoch;
      sak = k;
      fact = in-contains (happening (deed_at n ds)).facts (facts.Installed s i an epoch k)
          (shown (deed_at n ds) (facts.Installed s i an epoch k) fact);
    }

-- ---- who says something at a moment

abbrev pub nothing : Announcement
nothing = record {
  source = record { 0 = [] };
  priority = 0;
  server = false;
  sci = record { 0 = [] };
  mi = record { 0 = [] };
  mn = 0;
  ckn = [];
  live = [];
  potential = [];
  uses = None;
  given = None;
  highs = None;
}

abbrev pub announced_in : Option Deed → Announcement
announced_in None = nothing
announced_in (Some (tells s next f n a g)) = whole a g
announced_in (Some (emits n pn)) = nothing
announced_in (Some (plain e f)) = nothing

abbrev pub is_telling : ℕ → Option Deed → Bool
is_telling t None = false
is_telling t (Some (tells s next f n a g)) = s == t
is_telling t (Some (emits n pn)) = false
is_telling t (Some (plain e f)) = false

readable-at : (n : ℕ) (ds : List Deed) → list_all is_readable ds ≡ true → (d : Deed)
    → deed_at n ds ≡ Some d → is_readable d ≡ true
unfolding deed_at
readable-at n [] all d e = absurd (cc (e))
readable-at n (c ∷ ds) all d e =
    let p = and_parts (is_readable c) (list_all is_readable ds) all in
    by_test (length ds == n)
    (λ t. let one : Some c ≡ Some d = rw t at e in ap is_readable (sym (some-same one)) ∙ p.0)
    (λ t. let there : deed_at n ds ≡ Some d = rw t at e in readable-at n ds p.1 d there)

sends-at : (s n : ℕ) (ds : List Deed) → list_all is_readable ds ≡ true
    → In (profile s) (stations (run_of ds)) → is_telling s (deed_at n ds) ≡ true
    → Sends settings (run_of ds) n s (announced_in (deed_at n ds))
sends-at s n ds read here e = go (deed_at n ds) refl e
  where
    go : (o : Option Deed) → deed_at n ds ≡ o → is_telling s o ≡ true
        → Sends settings (run_of ds) n s (announced_in o)
    go None same e = absurd (cc (e))
    go (Some (emits m pn)) same e = absurd (cc (e))
    go (Some (plain x f)) same e = absurd (cc (e))
    go (Some (tells t next f m a g)) same e =
        let at = deed-at n ds (tells t next f m a g) same in
        let mine : t ≡ s = eqb-true t s e in
        let octets = framed_by (profile t) (whole a g) in
        let good = and_parts (is_good a) (is_gift g)
        (readable-at n ds read (tells t next f m a g) same) in
        record {
          event = happens (tells t next f m a g);
          at = at.0;
          within = at.1;
          number = m;
          octets = octets;
          fact = subst (λ u. Contains (f ++ told m t a g ∷ []) (facts.Framed m u false octets)) mine
              (Contains-push f (told m t a g));
          profile = profile s;
          here = in-contains (stations (run_of ds)) (profile s) here;
          spelled = sayable-right (profile t) (profile s) (whole a g) (good-is a g good.0 good.1);
        }

-- ---- a listener and a keeper, decided

abbrev pub is_listener : ℕ → ℕ → Accepted → List Deed → Bool
is_listener s sent word ds =
    is_telling s (deed_at sent ds) && (same_mi (announced_in (deed_at sent ds)).mi word.told.mi
    && ((announced_in (deed_at sent ds)).mn == word.told.mn))

abbrev pub is_keeper : ℕ → ℕ → KeyId → Accepted → List Deed → Bool
is_keeper s sent old_id word ds = is_listener s sent word ds && reports_old old_id word.told.uses

-- what the first of the live members says
abbrev pub no_word : Accepted
no_word = record {
  at = 0;
  told = record {
    mi = record { 0 = [] };
    sci = record { 0 = [] };
    priority = 0;
    mn = 0;
    lists = false;
    listed = 0;
    uses = None;
  };
  vouched = false;
}

abbrev pub first_word : List Accepted → Accepted
first_word [] = no_word
first_word (w ∷ ws) = w

first-in : (ws : List Accepted) → nat_lt 0 (length ws) ≡ true → In (first_word ws) ws
first-in [] e = absurd (cc (e))
first-in (w ∷ ws) e = inl refl

pub all-upto : (p : Deed → Bool) (n : ℕ) (ds : List Deed) → list_all p ds ≡ true
    → list_all p (told_upto n ds) ≡ true
unfolding told_upto
all-upto p n [] all = refl
all-upto p n (d ∷ ds) all =
    by_test (nat_lt (length ds) n) (λ e. rw e all)
    (λ e. rw e (all-upto p n ds (and_parts (p d) (list_all p ds) all).1))

pub life-upto : (s n : ℕ) (ds : List Deed) → list_all is_bare ds ≡ true
    → list_all is_readable ds ≡ true
    → life settings s (upto n (run_of ds)) ≡ life_by s (told_upto n ds)
life-upto s n ds bare read =
    ap (life settings s) (run-upto n ds)
    ∙ life-is s (told_upto n ds) (all-upto is_bare n ds bare) (all-upto is_readable n ds read)

-- to the server, right after it begins the new key
abbrev pub words_then : Rollover → List Deed → List Accepted
words_then o ds = words_of (life_by o.server (told_upto (suc o.start) ds))

pub keeper-is : (o : Rollover) (s sent : ℕ) (ds : List Deed) → is_among s o.from.out ≡ false
    → list_all is_bare ds ≡ true → list_all is_readable ds ≡ true → In (profile s) (stations (run_of ds))
    → nat_lt 0 (length (words_then o ds)) ≡ true
    → is_keeper s sent o.old_id (first_word (words_then o ds)) ds ≡ true
    → IsKeeper settings (run_of ds) o s sent (first_word (words_then o ds))
keeper-is o s sent ds counts bare read here some e =
    let word = first_word (words_then o ds) in
    let keeps = and_parts (is_listener s sent word ds) (reports_old o.old_id word.told.uses) e in
    let says = and_parts (is_telling s (deed_at sent ds)) _ keeps.0 in
    let spoken = and_parts (same_mi (announced_in (deed_at sent ds)).mi word.told.mi) _ says.1 in
    record {
      listener = go (life_by o.server (told_upto (suc o.start) ds)) refl word
          (first-in (words_then o ds) some)
          (same_mi-equal (announced_in (deed_at sent ds)).mi word.told.mi spoken.0)
          (eqb-true (announced_in (deed_at sent ds)).mn word.told.mn spoken.1)
          (sends-at s sent ds read here says.0);
      keeps = keeps.1;
    }
  where
    go : (then : Option Life) → life_by o.server (told_upto (suc o.start) ds) ≡ then
        → (word : Accepted) → In word (words_of then)
        → (announced_in (deed_at sent ds)).mi ≡ word.told.mi
        → (announced_in (deed_at sent ds)).mn ≡ word.told.mn
        → Sends settings (run_of ds) sent s (announced_in (deed_at sent ds))
        → IsListener settings (run_of ds) o s sent word
    go None same word live mi mn sends = elim live [ ]
    go (Some l) same word live mi mn sends = record {
      server_life = l;
      living = life-upto o.server (suc o.start) ds bare read ∙ same;
      live = in-contains (words_of (Some l)) word live;
      announcement = announced_in (deed_at sent ds);
      sends = sends;
      mi = mi;
      mn = mn;
      counts = counts;
    }

-- ---- what each event passes

abbrev pub is_tested : (ℕ → Happening → Bool) → Run → Bool
is_tested p [] = true
is_tested p (x ∷ r) = p (length r) x && is_tested p r

pub each-tested : (p : ℕ → Happening → Bool) (r : Run) → is_tested p r ≡ true
    → Each (λ n x. p n x ≡ true) r
each-tested p [] e = tt
each-tested p (x ∷ r) e =
    let q = and_parts (p (length r) x) (is_tested p r) e in (q.0, each-tested p r q.1)
