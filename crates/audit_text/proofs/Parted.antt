-- The key text is read line by line, up to the capture.
use Rattle.std.proofs.Common.{◌≡◌, ℕ, ◌-◌, Bool, true, false, List, [], ◌∷◌, ◌++◌, length, take, Option, Ok, Err, sym, ap, ◌∙◌, subst, append_assoc, length-append, arith, inl, inr, ◌≤◌, ◌⊎◌}
use Rattle.std.specs.Prelude.{if◌then◌else◌, min}
use Rattle.std.proofs.lemmas.Bool.{cases_lt}
use Rattle.std.proofs.lemmas.List.{take-append-le, take_all}
use Rattle.lan_base.specs.declared.source.ReadEnd.{ReadEnd}
use Rattle.lan_base.specs.declared.source.ReadEnd.TheVariants.{Limit, Failed, Memory}
use Rattle.capture_packets.specs.Captures.{begins_file}
use Rattle.capture_packets.proofs.Public.{behind-same, sees, take-least}
use Rattle.octet_supply.specs.Supplying.{Held, IsInLine, Peeks, TakesLine}
use Rattle.octet_supply.specs.declared.supply.LineEnd.{LineEnd}
use Rattle.octet_supply.specs.declared.supply.LineEnd.TheVariants.{Feed, Most, Source}
use Rattle.octet_supply.proofs.Public.{take-behind, within, within-held}
use Rattle.audit_text.specs.declared.parting.Part.TheVariants as parts
use Rattle.audit_text.specs.Parting.{IsLast, IsLong, IsUnparted, Parts, begins, capture_behind, line_of, says_capture}
use Rattle.audit_text.proofs.FedLines.{behind-line, none-behind}

-- ---- what is seen at the start of a line

pub starts-is : (limit : ℕ) (text given behind held : List ℕ) (h : Held) (left : Option (List ℕ)) (n : ℕ) (b : Bool)
    → take limit text ≡ given ++ behind → Peeks limit text given 4 h left (Ok tt) → held ≡ h.octets
    → n ≡ min (length held) 4 → begins_file (take n held) ≡ b → begins behind ≡ b
starts-is limit text given behind held h left n b visible p same least is =
    let s = sees limit text given behind 4 h left false (omega arith) visible p in
    ap begins_file (s.same ∙ ap (take 4) (sym same) ∙ sym (take-least 4 held) ∙ ap (λ (k : ℕ). take k held) (sym least))
    ∙ is

pub parts-capture : (limit : ℕ) (text given behind line : List ℕ) (h : Held) (left : Option (List ℕ))
    → Peeks limit text given 4 h left (Ok tt) → begins behind ≡ true
    → Parts limit text given behind line h left (Ok parts.Capture)
parts-capture limit text given behind line h left p is = (p.0, is)

pub parts-peek : (limit : ℕ) (text given behind line : List ℕ) (h : Held) (left : Option (List ℕ)) (e : ReadEnd)
    → take limit text ≡ given ++ behind
    → Peeks limit text given 4 h left (Err e) → Parts limit text given behind line h left (Err e)
parts-peek limit text given behind line h left Limit visible (stands, (few, past)) =
    let same = ap length (behind-same given behind h.octets (sym visible ∙ past.front)) in
    (past.longer, inl (omega (arith, same, few)))
parts-peek limit text given behind line h left Failed visible (stands, (few, taken)) = (h.octets, taken, inl few)
parts-peek limit text given behind line h left Memory visible p = tt

-- ---- a line

-- four octets were looked at, or the text ends
pub seen-is : (limit : ℕ) (text given behind : List ℕ) (h : Held) (left : Option (List ℕ))
    → take limit text ≡ given ++ behind → Peeks limit text given 4 h left (Ok tt)
    → (4 ≤ length behind) ⊎ (length text ≤ limit)
seen-is limit text given behind h left visible (stands, inl many) =
    let a = within-held limit text given h left stands in
    let l = ap length (behind-same given behind (h.octets ++ a.behind) (sym visible ∙ a.front)) in
    let m = length-append h.octets a.behind in
    inl (omega (arith, l, m, many))
seen-is limit text given behind h left visible (stands, inr end) = inr end.1.within

pub parts-line : (limit : ℕ) (text given behind line now : List ℕ) (new : Held) (left : Option (List ℕ)) (end : LineEnd)
    → take limit text ≡ given ++ behind → begins behind ≡ false
    → (4 ≤ length behind) ⊎ (length text ≤ limit)
    → TakesLine limit text given 4097 [] line new left (Ok end) → now ≡ line_of end line
    → Parts limit text given behind now new left (Ok (parts.Line end))
parts-line limit text given behind line now new left Feed visible is seen (l, same, inside, stands) ended =
    let a = within limit text (given ++ (l ++ 10 ∷ [])) new left stands in
    let ahead : behind ≡ l ++ 10 ∷ a.ahead =
    behind-same given behind (l ++ 10 ∷ a.ahead)
    (sym visible ∙ a.front ∙ append_assoc given (l ++ 10 ∷ []) a.ahead
    ∙ ap (λ (m : List ℕ). given ++ m) (append_assoc l (10 ∷ []) a.ahead)) in
    record {
      none = is;
      seen = seen;
      octets = l;
      later = a.ahead;
      parts = ahead;
      within = inside;
      line_is = ended ∙ ap (line_of Feed) same;
      stands = stands;
      capture = ap capture_behind ahead ∙ (behind-line l a.ahead inside.none (sym (ap begins ahead) ∙ is)).1
          ∙ ap (λ (o : List ℕ). if says_capture o then a.ahead else capture_behind a.ahead) (sym (ended ∙ ap (line_of Feed) same));
    }
parts-line limit text given behind line now new left Most visible is seen (l, same, inside, (full, (octet, other, stands))) ended =
    let a = within limit text (given ++ (l ++ octet ∷ [])) new left stands in
    let ahead : behind ≡ l ++ octet ∷ a.ahead =
    behind-same given behind (l ++ octet ∷ a.ahead)
    (sym visible ∙ a.front ∙ append_assoc given (l ++ octet ∷ []) a.ahead
    ∙ ap (λ (m : List ℕ). given ++ m) (append_assoc l (octet ∷ []) a.ahead)) in
    subst (λ (m : List ℕ). IsLong behind m) (sym (ended ∙ same)) (record {
      none = is;
      octet = octet;
      later = a.ahead;
      parts = ahead;
      other = other;
      within = inside;
      full = full;
    })
parts-line limit text given behind line now new left Source visible is seen (l, same, inside, end) ended =
    let w = end.within in
    let all : behind ≡ l = behind-same given behind l (sym visible ∙ take_all limit text (omega (arith, w)) ∙ end.all) in
    subst (λ (m : List ℕ). IsLast limit text behind m left) (sym (ended ∙ same)) (record {
      all = all;
      within = inside;
      few = w;
      end = end.end;
      capture = ap capture_behind all ∙ (none-behind l inside.none (sym (ap begins all) ∙ is)).1;
    })

-- octets of a line that was broken off
unparted : (behind l ahead : List ℕ) → behind ≡ l ++ ahead → begins behind ≡ false → IsInLine 4097 l
    → IsUnparted l
unparted behind l ahead same is inside = elim (cases_lt (length l) 4) [
  | inl few ↦ inl few
  | inr many ↦
      let four = ap (take 4) same ∙ take-append-le 4 l ahead many in
      inr (sym (ap begins_file four) ∙ is, inside)
]

pub parts-err : (limit : ℕ) (text given behind line into now : List ℕ) (middle new : Held) (left : Option (List ℕ)) (e : ReadEnd)
    → take limit text ≡ given ++ behind → begins behind ≡ false
    → TakesLine limit text given 4097 into line middle left (Err e)
    → Parts limit text given behind now new left (Err e)
parts-err limit text given behind line into now middle new left Limit visible is (l, same, inside, (stands, past)) =
    let all = behind-same given behind l (sym visible ∙ past.front) in (
      past.longer,
      subst (λ (m : List ℕ). IsUnparted m) (sym all)
          (inr (sym (ap begins all) ∙ is, inside)),
    )
parts-err limit text given behind line into now middle new left Failed visible is (l, same, inside, (stands, taken)) =
    let w = taken.within in
    let ahead = take (limit - length (given ++ l)) taken.rest in
    let front = behind-same given behind (l ++ ahead)
    (sym visible ∙ ap (take limit) taken.whole ∙ take-behind limit (given ++ l) taken.rest w
    ∙ append_assoc given l ahead) in
    (l, taken, unparted behind l ahead front is inside)
parts-err limit text given behind line into now middle new left Memory visible is t = tt
