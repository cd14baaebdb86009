-- Writing a text part by part.
use Rattle.std.proofs.Common.{◌≡◌, ℕ, List, [], ◌∷◌, ◌++◌, refl, sym, ap, ◌∙◌, append_assoc, append-nil, decimal, take, drop, subst}
use Rattle.std.specs.Prelude.{flat_map, IfOk, OnOk, OnErr, Ok, Err}
use Rattle.std.specs.declared.result.Result.{Result}
use Rattle.std.proofs.lemmas.Grind.{flat_map-append}
use Rattle.std.proofs.lemmas.List.{take-append-drop}
use Rattle.ref_terms.specs.texts.Text.{Part, Bytes, Free, escaped}
use Rattle.ref_terms.specs.texts.Numbering.{place_of, seen_also, numbered}
use Rattle.term_print.specs.Written.{seen_after, GainsFront, Page, Prints, Stops}

-- nothing is written
pub prints-none : (p : Page) (ps : List Part) → Prints p ps p ps
prints-none p ps = record { more = []; text = sym (append-nil p.text); parts = refl; seen = refl }

-- equal parts are printed alike
pub prints-same : (p q : Page) (ps ps' rest rest' : List Part) → ps' ≡ ps → rest ≡ rest' → Prints p ps q rest → Prints p ps' q rest'
prints-same p q ps ps' rest rest' e f w = record {
  more = w.more;
  text = w.text;
  parts = ap (numbered p.seen) e ∙ w.parts ∙ ap (λ r. w.more ++ numbered q.seen r) f;
  seen = ap (seen_after p.seen) e ∙ w.seen ∙ ap (seen_after q.seen) f;
}

-- one after the other
pub prints-trans : (p q r : Page) (ps qs rs : List Part) → Prints p ps q qs → Prints q qs r rs → Prints p ps r rs
prints-trans p q r ps qs rs v w = record {
  more = v.more ++ w.more;
  text = w.text ∙ ap (λ t. t ++ w.more) v.text ∙ append_assoc p.text v.more w.more;
  parts = v.parts ∙ ap (λ t. v.more ++ t) w.parts ∙ sym (append_assoc v.more w.more (numbered r.seen rs));
  seen = v.seen ∙ w.seen;
}

-- bytes
pub prints-bytes : (t seen bs : List ℕ) (ps : List Part) → Prints (record { text = t; seen = seen }) (Bytes bs ∷ ps) (record { text = t ++ bs; seen = seen }) ps
prints-bytes t seen bs ps = record { more = bs; text = refl; parts = refl; seen = refl }

-- a variable
pub prints-free : (t seen : List ℕ) (v : ℕ) (ps : List Part) → Prints (record { text = t; seen = seen }) (Free v ∷ ps) (record { text = t ++ 63 ∷ decimal (place_of v seen); seen = seen_also v seen }) ps
prints-free t seen v ps = record { more = 63 ∷ decimal (place_of v seen); text = refl; parts = refl; seen = refl }

-- stopping after something was written
pub stops-later : (p q : Page) (ps qs : List Part) (t : List ℕ) → Prints p ps q qs → Stops q qs t → Stops p ps t
stops-later p q ps qs t w s =
    let rest = s.2.0 in (
      w.more ++ s.0,
      s.1 ∙ ap (λ u. u ++ s.0) w.text ∙ append_assoc p.text w.more s.0,
      (
        rest,
        append_assoc w.more s.0 rest ∙ ap (λ u. w.more ++ u) s.2.1 ∙ sym w.parts,
      ),
    )

-- stopping at once
pub stops-now : (p : Page) (ps : List Part) → Stops p ps p.text
stops-now p ps = ([], sym (append-nil p.text), (numbered p.seen ps, refl))

-- equal parts stop alike
pub stops-same : (p : Page) (ps ps' : List Part) (t : List ℕ) → ps' ≡ ps → Stops p ps t → Stops p ps' t
stops-same p ps ps' t e s = (s.0, s.1, (s.2.0, s.2.1 ∙ sym (ap (numbered p.seen) e)))

-- a front of some bytes
pub stops-bytes : (p : Page) (bs : List ℕ) (ps : List Part) (t : List ℕ) → GainsFront bs p.text t → Stops p (Bytes bs ∷ ps) t
stops-bytes p bs ps t s = (s.0, s.1, (s.2.0 ++ numbered p.seen ps, sym (append_assoc s.0 s.2.0 (numbered p.seen ps)) ∙ ap (λ u. u ++ numbered p.seen ps) s.2.1))

-- parts one after another
pub numbered-append : (seen : List ℕ) (ps qs : List Part) → numbered seen (ps ++ qs) ≡ numbered seen ps ++ numbered (seen_after seen ps) qs
numbered-append seen [] qs = refl
numbered-append seen (Bytes bs ∷ ps) qs = ap (λ t. bs ++ t) (numbered-append seen ps qs) ∙ sym (append_assoc bs (numbered seen ps) (numbered (seen_after seen ps) qs))
numbered-append seen (Free v ∷ ps) qs =
    ap (λ t. (63 ∷ decimal (place_of v seen)) ++ t) (numbered-append (seen_also v seen) ps qs)
    ∙ sym (append_assoc (63 ∷ decimal (place_of v seen)) (numbered (seen_also v seen) ps) (numbered (seen_after (seen_also v seen) ps) qs))

pub seen-append : (seen : List ℕ) (ps qs : List Part) → seen_after seen (ps ++ qs) ≡ seen_after (seen_after seen ps) qs
seen-append seen [] qs = refl
seen-append seen (Bytes bs ∷ ps) qs = seen-append seen ps qs
seen-append seen (Free v ∷ ps) qs = seen-append (seen_also v seen) ps qs

-- all parts of a text, before others
pub prints-all : (t seen : List ℕ) (ps qs : List Part) → Prints (record { text = t; seen = seen }) (ps ++ qs) (record { text = t ++ numbered seen ps; seen = seen_after seen ps }) qs
prints-all t seen ps qs = record { more = numbered seen ps; text = refl; parts = numbered-append seen ps qs; seen = seen-append seen ps qs }

-- a front of some bytes, after others
pub gains-none : (bs t : List ℕ) → GainsFront bs t t
gains-none bs t = ([], sym (append-nil t), (bs, refl))

pub gains-later : (cs bs old mid new : List ℕ) → mid ≡ old ++ cs → GainsFront bs mid new → GainsFront (cs ++ bs) old new
gains-later cs bs old mid new e s =
    (cs ++ s.0, s.1 ∙ ap (λ u. u ++ s.0) e ∙ append_assoc old cs s.0, (s.2.0, append_assoc cs s.0 s.2.0 ∙ ap (λ u. cs ++ u) s.2.1))

pub gains-front : (cs bs old new : List ℕ) → GainsFront cs old new → GainsFront (cs ++ bs) old new
gains-front cs bs old new s = (s.0, s.1, (s.2.0 ++ bs, sym (append_assoc s.0 s.2.0 bs) ∙ ap (λ u. u ++ bs) s.2.1))

-- a front of the bytes of a string
flat-drop : (bs : List ℕ) (i : ℕ) → flat_map escaped (take i bs) ++ flat_map escaped (drop i bs) ≡ flat_map escaped bs
flat-drop bs i = sym (flat_map-append escaped (take i bs) (drop i bs)) ∙ ap (flat_map escaped) (take-append-drop i bs)

pub gains-map : (bs : List ℕ) (i : ℕ) (old mid new : List ℕ) → mid ≡ old ++ flat_map escaped (take i bs) → new ≡ mid → GainsFront (flat_map escaped bs) old new
gains-map bs i old mid new e f = (flat_map escaped (take i bs), f ∙ e, (flat_map escaped (drop i bs), flat-drop bs i))

-- what holds, holds after an error
pub on-err : {T E : Type 0} {P : Type 0} → (r : Result T E) → P → OnErr r P
on-err (Ok x) p = tt
on-err (Err e) p = p

-- what follows from a clause
pub on-ok : {T E : Type 0} {P Q : Type 0} → (r : Result T E) → (P → Q) → OnOk r P → OnOk r Q
on-ok (Ok x) f p = f p
on-ok (Err e) f p = tt

pub on-ok_two : {T E : Type 0} {P Q R : Type 0} → (r : Result T E) → (P → Q → R) → OnOk r P → OnOk r Q → OnOk r R
on-ok_two (Ok x) f p q = f p q
on-ok_two (Err e) f p q = tt

pub on-err_from : {T E : Type 0} {P Q : Type 0} → (r : Result T E) → (P → Q) → OnErr r P → OnErr r Q
on-err_from (Ok x) f p = tt
on-err_from (Err e) f p = f p

-- an error before anything was written
pub stops-unchanged : (p : Page) (ps : List Part) (t : List ℕ) → t ≡ p.text → Stops p ps t
stops-unchanged p ps t e = subst (Stops p ps) (sym e) (stops-now p ps)

pub if-ok : {T E : Type 0} {P Q : T → Type 0} → (r : Result T E) → ((x : T) → P x → Q x) → IfOk r P → IfOk r Q
if-ok (Ok x) f p = f x p
if-ok (Err e) f p = tt

pub if-ok_two : {T E : Type 0} {P Q R : T → Type 0} → (r : Result T E) → ((x : T) → P x → Q x → R x) → IfOk r P → IfOk r Q → IfOk r R
if-ok_two (Ok x) f p q = f x p q
if-ok_two (Err e) f p q = tt
