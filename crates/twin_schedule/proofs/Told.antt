-- What is kept and told of an event, and of a run with it.
use Rattle.std.proofs.Common.{◌≡◌, ℕ, zero, suc, true, false, cond, List, [], ◌∷◌, ◌++◌, map, length}
use Rattle.std.proofs.Common.{Some, None, refl, sym, ap, ◌∙◌, subst, append_assoc, append-nil}
use Rattle.std.proofs.Common.{◌<◌, ◌≤◌, take, drop, get_or, length-append, arith}
use Rattle.std.specs.Prelude.{◌+◌, nat_lt, slice_get, option_map, option_to_list}
use Rattle.std.specs.Prelude.{Result, Err}
use Rattle.std.specs.Result.{IsErrAnd}
use Rattle.std.proofs.lemmas.List.{map-append, take_more}
use Rattle.std.proofs.lemmas.Result.{err_from_is_err_and}
use Rattle.lan_base.specs.declared.address.Sci.{Sci}
use Rattle.lan_base.specs.declared.frame.UserFrame.{UserFrame}
use Rattle.lan_core.specs.declared.fact.Fact.{Fact}
use Rattle.lan_core.specs.declared.fact.Fact.TheVariants as facts
use Rattle.lan_core.specs.Run.{Run, Profile, stations}
use Rattle.lan_core.specs.Ledgers.{Frame, air, framed, gather, with_one}
use Rattle.lan_core.proofs.Public.{mapped, chained}
use Rattle.cak_roll.specs.declared.event.GroupNumber.{GroupNumber}
use Rattle.cak_roll.specs.declared.event.GroupNumber.TheVariants.{First, Second}
use Rattle.cak_roll.specs.declared.event.TwinEvent.{TwinEvent}
use Rattle.cak_roll.specs.declared.event.TwinEvent.TheVariants as twins
use Rattle.cak_roll.specs.declared.told.Told.{Told}
use Rattle.cak_roll.specs.Twin.{Pair, Twin, TwinHappening, part_of, run_of, same_group}
use Rattle.cak_roll.specs.Twin.{IsTwinStep}
use Rattle.cak_roll.specs.Stepping.{Supply, happening, in_groups, first_part, second_part}
use Rattle.cak_roll.specs.Answers.{told_of, told_in}
use Rattle.cak_roll.proofs.Public.{started_in, stations-then}
use Rattle.twin_schedule.specs.World.{names_in, senders_of}
use Rattle.lan_base.specs.declared.sink.Unwritten.{Unwritten}
use Rattle.twin_schedule.specs.Reports.{AreTold, Report, report_of}
use Rattle.twin_schedule.specs.inside.Telling.{started_name, started_sci, adopted_name, sender_in}
use Rattle.twin_schedule.specs.inside.Telling.{senders_in, sent_in, report_with, AreTelling}
use Rattle.trace_acts.proofs.Public.{told-both}

-- ---- the event of a happening

pub happening-event : (pair : Pair) (users : List UserFrame) (t : Twin) (event : TwinEvent)
    (nth : Supply) (x : TwinHappening) → happening pair users t event nth ≡ Some x
    → x.event ≡ event
happening-event pair users t event nth x is =
    let first = chained (λ first. option_map (in_groups event first)
    (second_part pair users t event nth)) (first_part pair users t event nth) x is in
    let second = mapped (in_groups event first.0) (second_part pair users t event nth) x first.2 in
    ap (λ (y : TwinHappening). y.event) (sym second.2)

-- ---- names

abbrev name_of : Profile → List ℕ
name_of p = p.name

abbrev sci_of : Profile → Sci
sci_of p = p.sci

name-first : (t : Twin) (event : TwinEvent)
    → map name_of (started_in First t event) ≡ started_name event
name-first t (twins.Start name sci priority) = refl
name-first t (twins.Adopt station) = refl
name-first t (twins.Leave station group) = refl
name-first t (twins.Tick station group) = refl
name-first t (twins.Deliver group frame station) = refl
name-first t (twins.Restart station) = refl
name-first t (twins.Send station user) = refl

sci-first : (t : Twin) (event : TwinEvent)
    → map sci_of (started_in First t event) ≡ started_sci event
sci-first t (twins.Start name sci priority) = refl
sci-first t (twins.Adopt station) = refl
sci-first t (twins.Leave station group) = refl
sci-first t (twins.Tick station group) = refl
sci-first t (twins.Deliver group frame station) = refl
sci-first t (twins.Restart station) = refl
sci-first t (twins.Send station user) = refl

name-at : (ps : List Profile) (s : ℕ)
    → map name_of (option_to_list (slice_get ps s)) ≡ option_to_list (slice_get (map name_of ps) s)
name-at [] s = refl
name-at (p ∷ ps) zero = refl
name-at (p ∷ ps) (suc s) = name-at ps s

name-second : (t : Twin) (event : TwinEvent)
    → map name_of (started_in Second t event) ≡ adopted_name (names_in First t) event
name-second t (twins.Adopt station) = name-at (stations (run_of First t)) station
name-second t (twins.Start name sci priority) = refl
name-second t (twins.Leave station group) = refl
name-second t (twins.Tick station group) = refl
name-second t (twins.Deliver group frame station) = refl
name-second t (twins.Restart station) = refl
name-second t (twins.Send station user) = refl

get-past : (xs : List (List ℕ)) (n : ℕ) → length xs ≤ n → slice_get xs n ≡ None
get-past [] n le = refl
get-past (x ∷ xs) zero le = absurd (omega (arith, le))
get-past (x ∷ xs) (suc n) le = get-past xs n (omega (arith, le))

not-below : (n m : ℕ) → false ≡ nat_lt n m → m ≤ n
not-below n m e = grind arith

-- nobody adopts who isn't there
pub adopted-none : (names seen xs : List (List ℕ)) (event : TwinEvent) (station n : ℕ)
    → event ≡ twins.Adopt station → n ≡ station → seen ≡ names → false ≡ nat_lt n (length seen)
    → xs ≡ xs ++ adopted_name names event
adopted-none names seen xs event station n is same at past =
    let low = not-below n (length seen) past in
    let none : slice_get names station ≡ None =
    subst (λ (k : ℕ). slice_get names k ≡ None) same
    (subst (λ (l : List (List ℕ)). slice_get l n ≡ None) at (get-past seen n low)) in
    sym (ap (λ e. xs ++ adopted_name names e) is
    ∙ ap (λ o. xs ++ option_to_list o) none ∙ append-nil xs)

names-then : (pair : Pair) (users : List UserFrame) (x : TwinHappening) (t : Twin)
    (g : GroupNumber) → IsTwinStep pair users x t
    → names_in g (x ∷ t) ≡ names_in g t ++ map name_of (started_in g t x.event)
names-then pair users x t g step =
    ap (λ ps. map name_of ps) (stations-then pair users x t g step)
    ∙ map-append name_of (stations (run_of g t)) (started_in g t x.event)

pub names-first : (pair : Pair) (users : List UserFrame) (x : TwinHappening) (t : Twin)
    (event : TwinEvent) → IsTwinStep pair users x t → x.event ≡ event
    → names_in First (x ∷ t) ≡ names_in First t ++ started_name event
names-first pair users x t event step is =
    names-then pair users x t First step
    ∙ ap (λ e. names_in First t ++ map name_of (started_in First t e)) is
    ∙ ap (λ ns. names_in First t ++ ns) (name-first t event)

pub names-second : (pair : Pair) (users : List UserFrame) (x : TwinHappening) (t : Twin)
    (event : TwinEvent) → IsTwinStep pair users x t → x.event ≡ event
    → names_in Second (x ∷ t) ≡ names_in Second t ++ adopted_name (names_in First t) event
names-second pair users x t event step is =
    names-then pair users x t Second step
    ∙ ap (λ e. names_in Second t ++ map name_of (started_in Second t e)) is
    ∙ ap (λ ns. names_in Second t ++ ns) (name-second t event)

pub scis-first : (pair : Pair) (users : List UserFrame) (x : TwinHappening) (t : Twin)
    (event : TwinEvent) → IsTwinStep pair users x t → x.event ≡ event
    → map sci_of (stations (run_of First (x ∷ t)))
    ≡ map sci_of (stations (run_of First t)) ++ started_sci event
scis-first pair users x t event step is =
    ap (λ ps. map sci_of ps) (stations-then pair users x t First step)
    ∙ map-append sci_of (stations (run_of First t)) (started_in First t x.event)
    ∙ ap (λ e. map sci_of (stations (run_of First t)) ++ map sci_of (started_in First t e)) is
    ∙ ap (λ ss. map sci_of (stations (run_of First t)) ++ ss) (sci-first t event)

-- ---- senders

one-sender : (fact : Fact) (fs : List Frame)
    → senders_of (with_one (framed fact) fs) ≡ senders_of fs ++ sender_in fact
one-sender (facts.Framed number station sec octets) fs = refl
one-sender _ fs = sym (append-nil (senders_of fs))

senders-gather : (shown : List Fact) (fs : List Frame)
    → senders_of (gather framed shown fs) ≡ senders_of fs ++ senders_in shown
senders-gather [] fs = sym (append-nil (senders_of fs))
senders-gather (fact ∷ later) fs =
    senders-gather later (with_one (framed fact) fs)
    ∙ ap (λ l. l ++ senders_in later) (one-sender fact fs)
    ∙ append_assoc (senders_of fs) (sender_in fact) (senders_in later)

pub sent-append : (g : GroupNumber) (xs ys : List Told)
    → sent_in g (xs ++ ys) ≡ sent_in g xs ++ sent_in g ys
sent-append g [] ys = refl
sent-append g (x ∷ xs) ys =
    ap (λ l. cond (same_group x.group g) (senders_in x.facts) [] ++ l) (sent-append g xs ys)
    ∙ sym (append_assoc (cond (same_group x.group g) (senders_in x.facts) []) (sent_in g xs)
    (sent_in g ys))

same-itself : (g : GroupNumber) → same_group g g ≡ true
same-itself First = refl
same-itself Second = refl

sent-own : (g : GroupNumber) (ys r : Run)
    → senders_of (air (ys ++ r)) ≡ senders_of (air r) ++ sent_in g (told_of g ys)
unfolding air
sent-own g [] r = sym (append-nil (senders_of (air r)))
sent-own g (y ∷ ys) r =
    senders-gather y.facts (air (ys ++ r))
    ∙ ap (λ l. l ++ senders_in y.facts) (sent-own g ys r)
    ∙ append_assoc (senders_of (air r)) (sent_in g (told_of g ys)) (senders_in y.facts)
    ∙ ap (λ l. senders_of (air r) ++ l) (sym (sent-append g (told_of g ys)
    (record { group = g; facts = y.facts } ∷ [])
    ∙ ap (λ l. sent_in g (told_of g ys) ++ l)
    (append-nil (cond (same_group g g) (senders_in y.facts) [])
    ∙ ap (λ b. cond b (senders_in y.facts) []) (same-itself g))))

sent-other : (g h : GroupNumber) → same_group h g ≡ false → (ys : Run)
    → sent_in g (told_of h ys) ≡ []
sent-other g h other [] = refl
sent-other g h other (y ∷ ys) =
    sent-append g (told_of h ys) (record { group = h; facts = y.facts } ∷ [])
    ∙ ap (λ l. l ++ (cond (same_group h g) (senders_in y.facts) [] ++ [])) (sent-other g h other ys)
    ∙ ap (λ b. cond b (senders_in y.facts) [] ++ []) other

sent-in : (g : GroupNumber) (x : TwinHappening)
    → sent_in g (told_in x) ≡ sent_in g (told_of g (part_of g x))
sent-in First x =
    sent-append First (told_of First x.first) (told_of Second x.second)
    ∙ ap (λ l. sent_in First (told_of First x.first) ++ l) (sent-other First Second refl x.second)
    ∙ append-nil (sent_in First (told_of First x.first))
sent-in Second x =
    sent-append Second (told_of First x.first) (told_of Second x.second)
    ∙ ap (λ l. l ++ sent_in Second (told_of Second x.second)) (sent-other Second First refl x.first)

pub senders-then : (g : GroupNumber) (x : TwinHappening) (t : Twin)
    → senders_of (air (run_of g (x ∷ t)))
    ≡ senders_of (air (run_of g t)) ++ sent_in g (told_in x)
unfolding run_of
senders-then g x t =
    sent-own g (part_of g x) (run_of g t)
    ∙ ap (λ l. senders_of (air (run_of g t)) ++ l) (sym (sent-in g x))

pub senders-length : (fs : List Frame) → length (senders_of fs) ≡ length fs
senders-length [] = refl
senders-length (f ∷ earlier) =
    let e = senders-length earlier in
    length-append (senders_of earlier) (f.station ∷ []) ∙ omega (arith, e)

-- ---- reports

pub report-is : (first second : List (List ℕ)) (t : Twin) (told : Told)
    → first ≡ names_in First t → second ≡ names_in Second t
    → report_with first second told ≡ report_of t told
report-is first second t told is_first is_second = by told.group told.facts where
  by : (g : GroupNumber) (shown : List Fact)
      → report_with first second (record { group = g; facts = shown })
      ≡ report_of t (record { group = g; facts = shown })
  by First shown =
      ap (λ names. record { group = First; names = names; facts = shown }) is_first
  by Second shown =
      ap (λ names. record { group = Second; names = names; facts = shown }) is_second

pub reports-are : (first second : List (List ℕ)) (t : Twin) (told : List Told)
    → first ≡ names_in First t → second ≡ names_in Second t
    → map (report_with first second) told ≡ map (report_of t) told
reports-are first second t [] is_first is_second = refl
reports-are first second t (told ∷ later) is_first is_second =
    ap (λ r. r ∷ map (report_with first second) later)
    (report-is first second t told is_first is_second)
    ∙ ap (λ rs. report_of t told ∷ rs) (reports-are first second t later is_first is_second)

-- ---- one by one

-- an item at a place, between those before it and those behind it
split-at : {A : Type 0} (xs : List A) (i : ℕ) (x : A) → i < length xs → x ≡ get_or xs i x
    → xs ≡ take i xs ++ x ∷ drop (i + 1) xs
split-at [] i x lt is = absurd (omega (arith, lt))
split-at (y ∷ ys) zero x lt is = ap (λ z. z ∷ ys) (sym is)
split-at (y ∷ ys) (suc i) x lt is =
    let e : suc i + 1 ≡ suc (i + 1) = omega arith in
    rw e (ap (λ zs. y ∷ zs) (split-at ys i x (omega (arith, lt)) is))

take-one : {A : Type 0} (xs : List A) (i : ℕ) (x : A) → i < length xs → x ≡ get_or xs i x
    → take (i + 1) xs ≡ take i xs ++ x ∷ []
take-one xs i x lt is =
    take_more xs i x lt ∙ ap (λ z. take i xs ++ z ∷ []) (sym is)

pub sent-more : (g : GroupNumber) (told : List Told) (i : ℕ) (x : Told) (old now new : List ℕ)
    → i < length told → x ≡ get_or told i x → now ≡ old ++ sent_in g (take i told)
    → new ≡ now ++ sent_in g (x ∷ []) → new ≡ old ++ sent_in g (take (i + 1) told)
sent-more g told i x old now new lt is before more =
    more ∙ ap (λ l. l ++ sent_in g (x ∷ [])) before
    ∙ append_assoc old (sent_in g (take i told)) (sent_in g (x ∷ []))
    ∙ ap (λ l. old ++ l) (sym (ap (λ l. sent_in g l) (take-one told i x lt is)
    ∙ sent-append g (take i told) (x ∷ [])))

module _ {K : Type 0} (Took : K → Report → K → Type 0) where
  pub told-more : (f : Told → Report) (told : List Told) (i : ℕ) (x : Told) (a b c : K)
      → i < length told → x ≡ get_or told i x → AreTold Took a (map f (take i told)) b
      → Took b (f x) c → AreTold Took a (map f (take (i + 1) told)) c
  told-more f told i x a b c lt is before took =
      subst (λ (l : List Report). AreTold Took a l c)
      (sym (ap (λ l. map f l) (take-one told i x lt is) ∙ map-append f (take i told) (x ∷ [])))
      (told-both Took a b c (map f (take i told)) (f x ∷ []) before (c, took, refl))

-- the recorder broke at a report
pub told-upto : {K : Type 0} (Took : K → Report → K → Type 0)
    (Broke : K → Report → K → Unwritten → Type 0) (f : Told → Report) (told : List Told) (i : ℕ)
    (x : Told) (a b c : K) (why : Unwritten) (r : Result (Unit {0}) Unwritten) → i < length told
    → x ≡ get_or told i x → AreTold Took a (map f (take i told)) b → Broke b (f x) c why
    → IsErrAnd r (λ y. y ≡ why) → AreTelling Took Broke (map f told) a c r
told-upto Took Broke f told i x a b c why r lt is before broke err =
    let p = err_from_is_err_and r err in
    subst (λ (r : Result (Unit {0}) Unwritten). AreTelling Took Broke (map f told) a c r)
    (sym (p.1 ∙ ap (λ (y : Unwritten). Err y) p.2)) (record {
      told = map f (take i told);
      last = f x;
      behind = map f (drop (i + 1) told);
      parts = ap (λ l. map f l) (split-at told i x lt is)
          ∙ map-append f (take i told) (x ∷ drop (i + 1) told);
      before = b;
      by_one = before;
      breaks = broke;
    })
