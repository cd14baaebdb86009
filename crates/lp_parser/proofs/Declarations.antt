-- The machine of declarations reads exactly the declarations, and each of its states has a completion.
use Rattle.std.proofs.Common.{◌≡◌, ℕ, suc, ◌+◌, List, [], ◌∷◌, ◌++◌, refl, sym, ap, subst, append_assoc, arith, Bool, true, Option, Some, None, codes}
use Rattle.std.proofs.lemmas.Option.{same_Some}
use Rattle.lp_parser.specs.declared.ast.Place.{Place}
use Rattle.lp_parser.specs.declared.ast.WordKind.TheVariants.{Name}
use Rattle.lp_parser.specs.declared.ast.Operator.TheVariants.{Comma}
use Rattle.lp_parser.specs.declared.ast.Word.{Word}
use Rattle.lp_parser.specs.declared.ast.AstType.{AstType}
use Rattle.lp_parser.specs.declared.ast.AstType.TheVariants as type
use Rattle.lp_parser.specs.declared.ast.AstArg.{AstArg}
use Rattle.lp_parser.specs.declared.ast.Decl.{Decl}
use Rattle.lp_parser.specs.declared.ast.Decl.TheVariants.{KindDecl, TypeDecl, PredDecl}
use Rattle.lp_parser.specs.declared.lexeme.Mark.{Mark}
use Rattle.lp_parser.specs.declared.lexeme.Mark.TheVariants as mark
use Rattle.lp_parser.specs.declared.lexeme.Lexeme.{Lexeme}
use Rattle.lp_parser.specs.declared.lexeme.Lexeme.TheVariants as lexeme
use Rattle.lp_parser.specs.declared.item_state.TypeState.{TypeState}
use Rattle.lp_parser.specs.declared.item_state.TypeState.TheVariants.{Want}
use Rattle.lp_parser.specs.declared.item_state.Given.{Given}
use Rattle.lp_parser.specs.declared.item_state.Given.TheVariants as given
use Rattle.lp_parser.specs.declared.item_state.DeclState.{DeclState}
use Rattle.lp_parser.specs.declared.item_state.DeclState.TheVariants as decl
use Rattle.lp_parser.specs.declared.item_state.Moved.{Moved}
use Rattle.lp_parser.specs.declared.item_state.Moved.TheVariants.{To, Done}
use Rattle.lp_parser.specs.Types.{TypeExp}
use Rattle.lp_parser.specs.Declarations.{Names, last_name, name_and, KindExp, only_type, type_to, mode_of, Arg, argument, Args, last_arg, arg_and, DeclOf, kind, type, pred_alone, pred}
use Rattle.lp_parser.specs.inside.TypeMachine.{type_step, type_settled, type_whole}
use Rattle.lp_parser.specs.inside.DeclMachine.{decl_name, kind_named, in_type, decl_named, kind_type, kind_typed, pred_name, with_mode, pred_mode, pred_named, pred_colon, pred_argument, in_arg_type, decl_move}
use Rattle.lp_parser.proofs.Walks.{Steps, stays, steps, Moves, rests, moves, Ends, ends, one_move, and_ends, moves_first, steps_within, AtMoved, goes_to, is_done}
use Rattle.lp_parser.proofs.Types.{type_goes, TypeHolds, type_begins, type_step_reads, type_whole_reads, type_completes}

names_move : {u v : List Lexeme} {ws : List Word} → Names u v ws → (g : Given) (pre : List Word) → Moves decl_move (decl.Name g pre) u (decl.Named g (pre ++ ws)) v
names_move (last_name x p) g pre = one_move refl
names_move {v} (name_and {u = u1} {ws} x p q ns) g pre =
    let w : Word = record { text = x; place = p } in
    moves refl (moves refl (subst (λ y. Moves decl_move (decl.Name g (pre ++ w ∷ [])) u1 (decl.Named g y) v) (append_assoc pre (w ∷ []) ws) (names_move ns g (pre ++ w ∷ []))))

exp_ends : {u w : List Lexeme} {q : Place} {n : ℕ} → KindExp u (lexeme.Mark mark.Dot q ∷ w) n → (ws : List Word) (m k : ℕ) → m + n ≡ k → Ends decl_move (decl.Kind ws m) u (KindDecl ws k) w
exp_ends {w} {q} (only_type p) ws m k e =
    let same : m ≡ k = omega arith in
    subst (λ y. Ends decl_move (decl.Kind ws m) (lexeme.Mark mark.TypeWord p ∷ lexeme.Mark mark.Dot q ∷ w) (KindDecl ws y) w) same (ends (one_move refl) refl)
exp_ends (type_to {n} p q x) ws m k e = moves_first refl (moves_first refl (exp_ends x ws (m + 1) k (omega arith)))

kind_ends : {u w : List Lexeme} {q : Place} {n : ℕ} → KindExp u (lexeme.Mark mark.Dot q ∷ w) n → (ws : List Word) → Ends decl_move (decl.Named given.Kind ws) u (KindDecl ws n) w
kind_ends (only_type p) ws = ends (one_move refl) refl
kind_ends (type_to {n} p q x) ws = moves_first refl (moves_first refl (exp_ends x ws 1 (suc n) (omega arith)))

-- A lexeme that begins a type begins that of the names.
type_first : (ws : List Word) (c : Lexeme) (q : TypeState) → type_step (Want []) c ≡ Some q → decl_named given.TypeOf ws c ≡ Some (To (decl.Type ws q))
type_first ws (lexeme.Infix o p) q e = absurd cc
type_first ws c q e = ap (λ o. in_type ws o c None) e

in_type_moves : {q z : TypeState} {u v : List Lexeme} → Steps type_step q u z v → (ws : List Word) → Moves decl_move (decl.Type ws q) u (decl.Type ws z) v
in_type_moves g ws = steps_within (decl.Type ws) (λ q z c e. ap (λ o. in_type ws o c (type_whole (type_settled q))) e) g

typed_ends : {u w : List Lexeme} {d : Place} (z : TypeState) (t : AstType) → Steps type_step (Want []) u z (lexeme.Mark mark.Dot d ∷ w) → type_settled z ≡ Some (t, []) → (ws : List Word)
    → Ends decl_move (decl.Named given.TypeOf ws) u (TypeDecl ws t) w
typed_ends z t stays e ws = absurd cc
typed_ends {d} z t (steps {p} {c} f g) e ws =
    ends (moves (type_first ws c p f) (in_type_moves g ws)) (ap (λ o. in_type ws None (lexeme.Mark mark.Dot d) (type_whole o)) e)

arg_moves : {u v : List Lexeme} {a : AstArg} → Arg u v a → (w : Word) (pre : List AstArg)
    → (z : TypeState) × Moves decl_move (decl.Mode w pre) u (decl.ArgType w pre a.input z) v × (type_settled z ≡ Some (a.ty, []))
arg_moves (argument {b} x p q e t) w pre =
    let on = type_goes t [] in (
      on.0,
      moves (ap (with_mode w pre) e) (moves refl (steps_within (decl.ArgType w pre b) (λ y z c f. ap (λ o. in_arg_type w pre b o c (type_whole (type_settled y))) f) on.1)),
      on.2,
    )

args_end : {u v : List Lexeme} {q : Place} {bs : List AstArg} → Args u (lexeme.Mark mark.Dot q ∷ v) bs → (w : Word) (pre : List AstArg)
    → Ends decl_move (decl.Mode w pre) u (PredDecl w (pre ++ bs)) v
args_end {q} (last_arg {a} x) w pre =
    let on = arg_moves x w pre in
    ends on.1 (ap (λ o. in_arg_type w pre a.input None (lexeme.Mark mark.Dot q) (type_whole o)) on.2)
args_end {v} (arg_and {v = u1} {a} {bs} r x y) w pre =
    let on = arg_moves x w pre in
    and_ends on.1 (moves_first (ap (λ o. in_arg_type w pre a.input None (lexeme.Infix Comma r) (type_whole o)) on.2)
    (subst (λ z. Ends decl_move (decl.Mode w (pre ++ a ∷ [])) u1 (PredDecl w z) v) (append_assoc pre (a ∷ []) bs) (args_end y w (pre ++ a ∷ []))))

with_mode_goes : (w : Word) (bs : List AstArg) (o : Option Bool) (d : Decl) → with_mode w bs o ≡ Some (Done d) → ⊥
with_mode_goes w bs None d e = cc
with_mode_goes w bs (Some b) d e = cc

-- A mode doesn't end a declaration.
mode_goes : (w : Word) (bs : List AstArg) (c : Lexeme) (d : Decl) → pred_mode w bs c ≡ Some (Done d) → ⊥
mode_goes w bs (lexeme.Word Name x p) d e = with_mode_goes w bs (mode_of x) d e
mode_goes w bs c d e = cc

-- A mode behind the name of a predicate does what it does behind a comma.
named_mode : {u v : List Lexeme} {w : Word} {d : Decl} → Ends decl_move (decl.Mode w []) u d v → Ends decl_move (decl.PredNamed w) u d v
named_mode {w} {d} (ends {c} rests e) = absurd (mode_goes w [] c d e)
named_mode (ends (moves {c = lexeme.Word k x p} f m) e) = ends (moves f m) e
named_mode (ends (moves f m) e) = absurd cc

-- the lexemes of a declaration behind its first, from the state that this leads to
pub data DeclBegins : List Lexeme → DeclState → List Lexeme → Type 0 where
  kind_begins : {u : List Lexeme} (p : Place) → DeclBegins (lexeme.Mark mark.KindWord p ∷ u) (decl.Name given.Kind []) u
  type_of_begins : {u : List Lexeme} (p : Place) → DeclBegins (lexeme.Mark mark.TypeWord p ∷ u) (decl.Name given.TypeOf []) u
  pred_begins : {u : List Lexeme} (p : Place) → DeclBegins (lexeme.Mark mark.PredWord p ∷ u) decl.Pred u

pub decl_ends : {u v : List Lexeme} {d : Decl} → DeclOf u v d → (z : DeclState) × (w : List Lexeme) × DeclBegins u z w × Ends decl_move z w d v
decl_ends (kind {u} {ws} p q ns k) = (decl.Name given.Kind [], u, kind_begins p, and_ends (names_move ns given.Kind []) (kind_ends k ws))
decl_ends (type {u} {ws} {t} p q ns x) =
    let on = type_goes x [] in
    (decl.Name given.TypeOf [], u, type_of_begins p, and_ends (names_move ns given.TypeOf []) (typed_ends on.0 t on.1 on.2 ws))
decl_ends (pred_alone {w} x p d q) = (decl.Pred, lexeme.Word Name x d ∷ lexeme.Mark mark.Dot q ∷ w, pred_begins p, moves_first refl (ends rests refl))
decl_ends (pred {u} x p d q a) = (decl.Pred, lexeme.Word Name x d ∷ u, pred_begins p, moves_first refl (named_mode (args_end a (record { text = x; place = d }) [])))

-- names with a comma behind each
pub data FrontNames : List Lexeme → List Lexeme → List Word → Type 0 where
  no_front_name : {u : List Lexeme} → FrontNames u u []
  and_front_name : {u v : List Lexeme} {ws : List Word} (x : List ℕ) (p q : Place)
      → FrontNames u (lexeme.Word Name x p ∷ lexeme.Infix Comma q ∷ v) ws → FrontNames u v (ws ++ record { text = x; place = p } ∷ [])

-- so many arrows with `type` before each
pub data FrontArrows : List Lexeme → List Lexeme → ℕ → Type 0 where
  no_front_arrow : {u : List Lexeme} → FrontArrows u u 0
  and_front_arrow : {u v : List Lexeme} {n : ℕ} (p q : Place) → FrontArrows u (lexeme.Mark mark.TypeWord p ∷ lexeme.Mark mark.Arrow q ∷ v) n → FrontArrows u v (n + 1)

-- arguments with a comma behind each
pub data FrontArgs : List Lexeme → List Lexeme → List AstArg → Type 0 where
  no_front_arg : {u : List Lexeme} → FrontArgs u u []
  and_front_arg : {u v w : List Lexeme} {bs : List AstArg} {a : AstArg} (q : Place) → FrontArgs u v bs → Arg v (lexeme.Infix Comma q ∷ w) a → FrontArgs u w (bs ++ a ∷ [])

names_with : {u v w : List Lexeme} {xs ys : List Word} → FrontNames u v xs → Names v w ys → Names u w (xs ++ ys)
names_with no_front_name p = p
names_with {u} {w} {ys} (and_front_name {ws} x p q f) ns =
    subst (Names u w) (sym (append_assoc ws (record { text = x; place = p } ∷ []) ys)) (names_with f (name_and x p q ns))

arrows_with : {u v w : List Lexeme} {n m : ℕ} → FrontArrows u v n → KindExp v w m → (k : ℕ) → n + m ≡ k → KindExp u w k
arrows_with {u} {w} {m} no_front_arrow x k e = let same : m ≡ k = omega arith in subst (KindExp u w) same x
arrows_with (and_front_arrow {n} p q f) x k e = arrows_with f (type_to p q x) k (omega arith)

args_with : {u v w : List Lexeme} {bs cs : List AstArg} → FrontArgs u v bs → Args v w cs → Args u w (bs ++ cs)
args_with no_front_arg y = y
args_with {u} {w} {cs} (and_front_arg {bs} {a} q f x) y = subst (Args u w) (sym (append_assoc bs (a ∷ []) cs)) (args_with f (arg_and q x y))

-- the keyword before the names
pub data Began : Given → List Lexeme → List Lexeme → Type 0 where
  kind_began : {u : List Lexeme} (p : Place) → Began given.Kind (lexeme.Mark mark.KindWord p ∷ u) u
  type_began : {u : List Lexeme} (p : Place) → Began given.TypeOf (lexeme.Mark mark.TypeWord p ∷ u) u

-- the name of a predicate behind its keyword
pub data PredBegan : Word → List Lexeme → List Lexeme → Type 0 where
  pred_began : {u : List Lexeme} (x : List ℕ) (p d : Place) → PredBegan (record { text = x; place = d }) (lexeme.Mark mark.PredWord p ∷ lexeme.Word Name x d ∷ u) u

-- the lexemes all are read in this state of a declaration up to these lexemes
pub data DeclHolds (all : List Lexeme) : DeclState → List Lexeme → Type 0 where
  at_name : {u v : List Lexeme} {g : Given} {ws : List Word} → Began g all u → FrontNames u v ws → DeclHolds all (decl.Name g ws) v
  at_named : {u v : List Lexeme} {g : Given} {ws : List Word} (x : List ℕ) (p : Place)
      → Began g all u → FrontNames u (lexeme.Word Name x p ∷ v) ws → DeclHolds all (decl.Named g (ws ++ record { text = x; place = p } ∷ [])) v
  at_kind : {u v w : List Lexeme} {ws : List Word} {n : ℕ} → Began given.Kind all u → Names u v ws → FrontArrows v w n → DeclHolds all (decl.Kind ws n) w
  at_kinded : {u v w : List Lexeme} {ws : List Word} {n : ℕ} (p : Place)
      → Began given.Kind all u → Names u v ws → FrontArrows v (lexeme.Mark mark.TypeWord p ∷ w) n → DeclHolds all (decl.Kinded ws n) w
  at_type : {u v w : List Lexeme} {ws : List Word} {q : TypeState} → Began given.TypeOf all u → Names u v ws → TypeHolds v q w → DeclHolds all (decl.Type ws q) w
  at_pred : {u : List Lexeme} (p : Place) → all ≡ lexeme.Mark mark.PredWord p ∷ u → DeclHolds all decl.Pred u
  at_pred_named : {u : List Lexeme} {w : Word} → PredBegan w all u → DeclHolds all (decl.PredNamed w) u
  at_mode : {u v : List Lexeme} {w : Word} {bs : List AstArg} → PredBegan w all u → FrontArgs u v bs → DeclHolds all (decl.Mode w bs) v
  at_colon : {u v : List Lexeme} {w : Word} {bs : List AstArg} {b : Bool} (x : List ℕ) (p : Place)
      → PredBegan w all u → FrontArgs u (lexeme.Word Name x p ∷ v) bs → mode_of x ≡ Some b → DeclHolds all (decl.Colon w bs b) v
  at_arg_type : {u v y : List Lexeme} {w : Word} {bs : List AstArg} {b : Bool} {q : TypeState} (x : List ℕ) (p d : Place)
      → PredBegan w all u → FrontArgs u (lexeme.Word Name x p ∷ lexeme.Mark mark.Colon d ∷ v) bs → mode_of x ≡ Some b → TypeHolds v q y
      → DeclHolds all (decl.ArgType w bs b q) y

pub decl_begins_holds : {u v : List Lexeme} {z : DeclState} → DeclBegins u z v → DeclHolds u z v
decl_begins_holds (kind_begins p) = at_name (kind_began p) no_front_name
decl_begins_holds (type_of_begins p) = at_name (type_began p) no_front_name
decl_begins_holds (pred_begins p) = at_pred p refl

-- .. where a lexeme leads
abbrev pub DeclAt : List Lexeme → Moved DeclState Decl → List Lexeme → Type 0
DeclAt all m u = AtMoved (DeclHolds all) (λ d v. DeclOf all v d) m u

on : {all u : List Lexeme} {m n : Moved DeclState Decl} → Some m ≡ Some n → DeclAt all m u → DeclAt all n u
on {all} {u} {m} {n} e a = subst (λ z. DeclAt all z u) (same_Some m n e) a

kind_is : {all u v w : List Lexeme} {ws : List Word} {n : ℕ} (q : Place) → Began given.Kind all u → Names u v ws → KindExp v (lexeme.Mark mark.Dot q ∷ w) n → DeclOf all w (KindDecl ws n)
kind_is q (kind_began p) ns k = kind p q ns k

type_is : {all u v w : List Lexeme} {ws : List Word} {t : AstType} (q : Place) → Began given.TypeOf all u → Names u v ws → TypeExp v (lexeme.Mark mark.Dot q ∷ w) t → DeclOf all w (TypeDecl ws t)
type_is q (type_began p) ns x = type p q ns x

pred_alone_is : {all u : List Lexeme} {w : Word} (q : Place) → PredBegan w all (lexeme.Mark mark.Dot q ∷ u) → DeclOf all u (PredDecl w [])
pred_alone_is q (pred_began x p d) = pred_alone x p d q

pred_is : {all u v : List Lexeme} {w : Word} {bs : List AstArg} (q : Place) → PredBegan w all u → Args u (lexeme.Mark mark.Dot q ∷ v) bs → DeclOf all v (PredDecl w bs)
pred_is q (pred_began x p d) a = pred x p d q a

name_reads : {all u v : List Lexeme} {g : Given} {ws : List Word} (c : Lexeme) → Began g all u → FrontNames u (c ∷ v) ws → (m : Moved DeclState Decl) → decl_name g ws c ≡ Some m → DeclAt all m v
name_reads (lexeme.Word Name x p) b f m e = on e (goes_to (at_named x p b f))
name_reads c b f m e = absurd cc

kind_named_reads : {all u v : List Lexeme} {ws : List Word} (c : Lexeme) → Began given.Kind all u → Names u (c ∷ v) ws → (m : Moved DeclState Decl) → kind_named ws c ≡ Some m → DeclAt all m v
kind_named_reads (lexeme.Mark mark.TypeWord p) b ns m e = on e (goes_to (at_kinded p b ns no_front_arrow))
kind_named_reads c b ns m e = absurd cc

in_type_reads : {all u v w : List Lexeme} {ws : List Word} {q : TypeState} (c : Lexeme) → Began given.TypeOf all u → Names u w ws → TypeHolds w q (c ∷ v)
    → (o : Option TypeState) → type_step q c ≡ o → (t : Option AstType) → ((x : AstType) → t ≡ Some x → TypeExp w (c ∷ v) x)
    → (m : Moved DeclState Decl) → in_type ws o c t ≡ Some m → DeclAt all m v
in_type_reads c b ns h (Some z) f t k m e = on e (goes_to (at_type b ns (type_step_reads c h z f)))
in_type_reads (lexeme.Mark mark.Dot d) b ns h None f (Some x) k m e = on e (is_done (type_is d b ns (k x refl)))
in_type_reads c b ns h None f t k m e = absurd cc

no_type : {u v : List Lexeme} (x : AstType) → None ≡ Some x → TypeExp u v x
no_type x e = absurd cc

named_reads : {all u v : List Lexeme} {g : Given} {ws : List Word} (x : List ℕ) (p : Place) (c : Lexeme)
    → Began g all u → FrontNames u (lexeme.Word Name x p ∷ c ∷ v) ws → (m : Moved DeclState Decl) → decl_named g (ws ++ record { text = x; place = p } ∷ []) c ≡ Some m → DeclAt all m v
named_reads x p (lexeme.Infix Comma q) b f m e = on e (goes_to (at_name b (and_front_name x p q f)))
named_reads {g = given.Kind} x p c b f m e = kind_named_reads c b (names_with f (last_name x p)) m e
named_reads {v} {g = given.TypeOf} {ws} x p c b f m e = in_type_reads c b (names_with f (last_name x p)) (type_begins (c ∷ v)) (type_step (Want []) c) refl None no_type m e

kind_reads : {all u v w : List Lexeme} {ws : List Word} {n : ℕ} (c : Lexeme) → Began given.Kind all u → Names u v ws → FrontArrows v (c ∷ w) n
    → (m : Moved DeclState Decl) → kind_type ws n c ≡ Some m → DeclAt all m w
kind_reads (lexeme.Mark mark.TypeWord p) b ns f m e = on e (goes_to (at_kinded p b ns f))
kind_reads c b ns f m e = absurd cc

kinded_reads : {all u v w : List Lexeme} {ws : List Word} {n : ℕ} (p : Place) (c : Lexeme) → Began given.Kind all u → Names u v ws → FrontArrows v (lexeme.Mark mark.TypeWord p ∷ c ∷ w) n
    → (m : Moved DeclState Decl) → kind_typed ws n c ≡ Some m → DeclAt all m w
kinded_reads p (lexeme.Mark mark.Arrow q) b ns f m e = on e (goes_to (at_kind b ns (and_front_arrow p q f)))
kinded_reads {n} p (lexeme.Mark mark.Dot q) b ns f m e = on e (is_done (kind_is q b ns (arrows_with f (only_type p) n (omega arith))))
kinded_reads p c b ns f m e = absurd cc

pred_reads : {all v : List Lexeme} (p : Place) (c : Lexeme) → all ≡ lexeme.Mark mark.PredWord p ∷ c ∷ v → (m : Moved DeclState Decl) → pred_name c ≡ Some m → DeclAt all m v
pred_reads {all} {v} p (lexeme.Word Name x d) s m e = on e (goes_to (at_pred_named (subst (λ y. PredBegan (record { text = x; place = d }) y v) (sym s) (pred_began x p d))))
pred_reads p c s m e = absurd cc

mode_reads_at : {all u v : List Lexeme} {w : Word} {bs : List AstArg} (x : List ℕ) (p : Place) → PredBegan w all u → FrontArgs u (lexeme.Word Name x p ∷ v) bs
    → (o : Option Bool) → mode_of x ≡ o → (m : Moved DeclState Decl) → with_mode w bs o ≡ Some m → DeclAt all m v
mode_reads_at x p b f None i m e = absurd cc
mode_reads_at x p b f (Some y) i m e = on e (goes_to (at_colon x p b f i))

mode_reads : {all u v : List Lexeme} {w : Word} {bs : List AstArg} (c : Lexeme) → PredBegan w all u → FrontArgs u (c ∷ v) bs → (m : Moved DeclState Decl) → pred_mode w bs c ≡ Some m → DeclAt all m v
mode_reads (lexeme.Word Name x p) b f m e = mode_reads_at x p b f (mode_of x) refl m e
mode_reads c b f m e = absurd cc

pred_named_reads : {all v : List Lexeme} {w : Word} (c : Lexeme) → PredBegan w all (c ∷ v) → (m : Moved DeclState Decl) → pred_named w c ≡ Some m → DeclAt all m v
pred_named_reads (lexeme.Mark mark.Dot q) b m e = on e (is_done (pred_alone_is q b))
pred_named_reads c b m e = mode_reads c b no_front_arg m e

colon_reads : {all u v : List Lexeme} {w : Word} {bs : List AstArg} {y : Bool} (x : List ℕ) (p : Place) (c : Lexeme)
    → PredBegan w all u → FrontArgs u (lexeme.Word Name x p ∷ c ∷ v) bs → mode_of x ≡ Some y → (m : Moved DeclState Decl) → pred_colon w bs y c ≡ Some m → DeclAt all m v
colon_reads {v} x p (lexeme.Mark mark.Colon d) b f i m e = on e (goes_to (at_arg_type x p d b f i (type_begins v)))
colon_reads x p c b f i m e = absurd cc

argument_reads : {all u v w : List Lexeme} {x : Word} {bs : List AstArg} {a : AstArg} (c : Lexeme) → PredBegan x all u → FrontArgs u v bs → Arg v (c ∷ w) a
    → (m : Moved DeclState Decl) → pred_argument x (bs ++ a ∷ []) c ≡ Some m → DeclAt all m w
argument_reads (lexeme.Infix Comma q) b f i m e = on e (goes_to (at_mode b (and_front_arg q f i)))
argument_reads (lexeme.Mark mark.Dot q) b f i m e = on e (is_done (pred_is q b (args_with f (last_arg i))))
argument_reads c b f i m e = absurd cc

in_arg_reads : {all u v y : List Lexeme} {w : Word} {bs : List AstArg} {h : Bool} {q : TypeState} (x : List ℕ) (p d : Place) (c : Lexeme)
    → PredBegan w all u → FrontArgs u (lexeme.Word Name x p ∷ lexeme.Mark mark.Colon d ∷ v) bs → mode_of x ≡ Some h → TypeHolds v q (c ∷ y)
    → (o : Option TypeState) → type_step q c ≡ o → (t : Option AstType) → type_whole (type_settled q) ≡ t
    → (m : Moved DeclState Decl) → in_arg_type w bs h o c t ≡ Some m → DeclAt all m y
in_arg_reads x p d c b f i h (Some z) g t k m e = on e (goes_to (at_arg_type x p d b f i (type_step_reads c h z g)))
in_arg_reads x p d c b f i h None g (Some t) k m e = argument_reads c b f (argument x p d i (type_whole_reads h t k)) m e
in_arg_reads x p d c b f i h None g None k m e = absurd cc

pub decl_move_reads : {all v : List Lexeme} {z : DeclState} (c : Lexeme) → DeclHolds all z (c ∷ v) → (m : Moved DeclState Decl) → decl_move z c ≡ Some m → DeclAt all m v
decl_move_reads c (at_name b f) m e = name_reads c b f m e
decl_move_reads c (at_named x p b f) m e = named_reads x p c b f m e
decl_move_reads c (at_kind b ns f) m e = kind_reads c b ns f m e
decl_move_reads c (at_kinded p b ns f) m e = kinded_reads p c b ns f m e
decl_move_reads c (at_type {q} b ns h) m e = in_type_reads c b ns h (type_step q c) refl (type_whole (type_settled q)) (λ x f. type_whole_reads h x f) m e
decl_move_reads c (at_pred p s) m e = pred_reads p c s m e
decl_move_reads c (at_pred_named b) m e = pred_named_reads c b m e
decl_move_reads c (at_mode b f) m e = mode_reads c b f m e
decl_move_reads c (at_colon x p b f i) m e = colon_reads x p c b f i m e
decl_move_reads c (at_arg_type {q} x p d b f i h) m e = in_arg_reads x p d c b f i h (type_step q c) refl (type_whole (type_settled q)) refl m e

-- Some lexemes lead from each state to a declaration.
abbrev pub DeclCompletes : DeclState → Type 0
DeclCompletes z = (u : List Lexeme) × (d : Decl) × Ends decl_move z u d []

-- a name, and a mode
abbrev a_name : Place → Lexeme
a_name p = lexeme.Word Name (codes "i") p

abbrev a_mark : Mark → Place → Lexeme
a_mark m p = lexeme.Mark m p

names_complete : (p : Place) (g : Given) (ws : List Word) → DeclCompletes (decl.Named g ws)
names_complete p given.Kind ws = (a_mark mark.TypeWord p ∷ a_mark mark.Dot p ∷ [], KindDecl ws 0, ends (one_move refl) refl)
names_complete p given.TypeOf ws =
    let w : Word = record { text = codes "i"; place = p } in
    (a_name p ∷ a_mark mark.Dot p ∷ [], TypeDecl ws (type.Named w []), ends (one_move refl) refl)

-- the type of an argument ends
arg_ends : (p : Place) (w : Word) (bs : List AstArg) (b : Bool) (q : TypeState) → DeclCompletes (decl.ArgType w bs b q)
arg_ends p w bs b q =
    let done = type_completes p q in (
      done.0 ++ a_mark mark.Dot p ∷ [],
      PredDecl w (bs ++ record { input = b; ty = done.1.1 } ∷ []),
      ends (steps_within (decl.ArgType w bs b) (λ y z c f. ap (λ o. in_arg_type w bs b o c (type_whole (type_settled y))) f) (done.1.3 (a_mark mark.Dot p ∷ [])))
          (ap (λ o. in_arg_type w bs b None (a_mark mark.Dot p) o) done.1.2),
    )

first_move : {z y : DeclState} (c : Lexeme) → decl_move z c ≡ Some (To y) → DeclCompletes y → DeclCompletes z
first_move c e (u, d, m) = (c ∷ u, d, moves_first e m)

pub decl_completes : (p : Place) (z : DeclState) → DeclCompletes z
decl_completes p (decl.Name g ws) = first_move (a_name p) refl (names_complete p g (ws ++ record { text = codes "i"; place = p } ∷ []))
decl_completes p (decl.Named g ws) = names_complete p g ws
decl_completes p (decl.Kind ws n) = (a_mark mark.TypeWord p ∷ a_mark mark.Dot p ∷ [], KindDecl ws n, ends (one_move refl) refl)
decl_completes p (decl.Kinded ws n) = (a_mark mark.Dot p ∷ [], KindDecl ws n, ends rests refl)
decl_completes p (decl.Type ws q) =
    let done = type_completes p q in (
      done.0 ++ a_mark mark.Dot p ∷ [],
      TypeDecl ws done.1.1,
      ends (in_type_moves (done.1.3 (a_mark mark.Dot p ∷ [])) ws) (ap (λ o. in_type ws None (a_mark mark.Dot p) o) done.1.2),
    )
decl_completes p decl.Pred = (a_name p ∷ a_mark mark.Dot p ∷ [], PredDecl (record { text = codes "i"; place = p }) [], ends (one_move refl) refl)
decl_completes p (decl.PredNamed w) = (a_mark mark.Dot p ∷ [], PredDecl w [], ends rests refl)
decl_completes p (decl.Mode w bs) = first_move (a_name p) refl (first_move (a_mark mark.Colon p) refl (arg_ends p w bs true (Want [])))
decl_completes p (decl.Colon w bs b) = first_move (a_mark mark.Colon p) refl (arg_ends p w bs b (Want []))
decl_completes p (decl.ArgType w bs b q) = arg_ends p w bs b q
