-- What one step leaves.
use Rattle.std.proofs.Common.{◌≡◌, ℕ, suc, ◌+◌, ◌-◌, ◌*◌, ◌≤◌, Bool, true, false, cond, List, [], ◌∷◌, ◌++◌, length, refl, sym, ap, ap₂, ◌∙◌, subst, arith, append_assoc, length-append, decimal, reverse, get_or}
use Rattle.std.proofs.lemmas.List.{reverse-append, reverse-reverse, length-map}
use Rattle.level_terms.specs.declared.node.TermId.{TermId}
use Rattle.level_terms.specs.Graph.{Graph}
use Rattle.level_terms.specs.Growth.{Grows}
use Rattle.level_terms.specs.Reading.{read}
use Rattle.level_terms.specs.Sound.{IsSound}
use Rattle.level_terms.specs.Valid.{IsValid}
use Rattle.level_terms.proofs.ValidLemmas.{growth_keeps_valid}
use Rattle.ref_terms.specs.declared.sym.Sym.{Sym}
use Rattle.ref_terms.specs.terms.Term as term
use Rattle.ref_terms.specs.terms.Term.{Term, At}
use Rattle.ref_terms.specs.terms.Index.{sub, first}
use Rattle.ref_terms.specs.unification.Spine.{apply_all}
use Rattle.ref_terms.specs.search.Reserved.{word_of}
use Rattle.ref_terms.specs.texts.Text as text
use Rattle.ref_terms.specs.texts.Text.{Part, Bytes, Free, Form, symbol, head_text, infix_word, space, bracketed}
use Rattle.ref_terms.specs.texts.Numbering.{place_of, seen_also, numbered}
use Rattle.beta_fragment.specs.Names.{names}
use Rattle.beta_fragment.specs.HeadForm.{rigid_head, all_read, AllValidAt, IsAbstraction, FirstUnready}
use Rattle.beta_fragment.specs.declared.answer.RigidHead.{RigidHead}
use Rattle.beta_fragment.specs.declared.answer.RigidHead.TheVariants.{Con, Int, Str, Level}
use Rattle.level_terms.proofs.ReadLemmas.{valid-below, grown-reads}
use Rattle.term_print.specs.Chains.{AreKept}
use Rattle.term_print.specs.Opened.{head_part, name_bytes, opened_parts}
use Rattle.term_print.specs.Heads.{rigid_bytes, binder_bytes, infix_bytes}
use Rattle.term_print.specs.Written.{Page, Prints, Stops, GainsFront}
use Rattle.term_print.specs.Pieces.{IsPrefixed, is_bare, argument_parts, node_parts, piece_parts, work_parts, IsNode, IsPiece, ArePieces, piece_size, work_size, argument_pieces, Leaves, LeavesTerm, StopsTerm, page}
use Rattle.term_print.specs.declared.piece.Piece.{Piece}
use Rattle.term_print.specs.declared.piece.Piece.TheVariants.{Close, Infix, Top, Inner, Argument}
use Rattle.term_print.proofs.WrittenLemmas.{prints-same, prints-trans, prints-bytes, prints-free, prints-none, stops-now, stops-later, stops-same, stops-bytes}
use Rattle.term_print.proofs.ChainLemmas.{kept-grown}
use Rattle.term_print.proofs.OpenedLemmas.{parts-opened}
use Rattle.term_print.proofs.FormLemmas.{head-top, infix-top, redex-top, inner-form}

-- what stands for names and indices
abbrev pub name_parts : (base : ℕ) → ℕ → Part
name_parts base n = Bytes (name_bytes base n)

abbrev pub index_parts : List (List ℕ) → ℕ → Part
index_parts table i = head_text table 0 (term.Bound i)

-- pieces in a heap that gained nodes
module _ (g h : Graph) (s : IsSound g) (gr : Grows g h [] []) where
  pub reads-grown : (t : TermId) (depth : ℕ) → IsValid g t.index depth → read h t.index ≡ read g t.index
  reads-grown t depth v = grown-reads g h s gr t.index (valid-below g t.index depth v)

  pub node-grown : (base : ℕ) (t : TermId) (depth : ℕ) → IsNode base g t depth → IsNode base h t depth
  node-grown base t depth w = record { valid = growth_keeps_valid g h [] [] t.index depth s gr (valid-below g t.index depth w.valid) w.valid; deep = w.deep }

  parts-grown : (table : List (List ℕ)) (base : ℕ) (t : TermId) (depth : ℕ) (k : Form) → IsNode base g t depth → node_parts table base h t depth k ≡ node_parts table base g t depth k
  parts-grown table base t depth k w = ap (λ (r : (ℕ → Term) → Term). opened_parts table base (r names) k (depth - base)) (reads-grown t depth w.valid)

  piece-grown : (base : ℕ) (p : Piece) → IsPiece base g p → IsPiece base h p
  piece-grown base Close w = tt
  piece-grown base (Infix c) w = tt
  piece-grown base (Top t depth kept) w = (node-grown base t depth w.0, kept-grown g h s gr kept t.index w.1)
  piece-grown base (Inner t depth) w = node-grown base t depth w
  piece-grown base (Argument t depth) w = node-grown base t depth w

  piece_parts-grown : (table : List (List ℕ)) (base : ℕ) (p : Piece) → IsPiece base g p → piece_parts table base h p ≡ piece_parts table base g p
  piece_parts-grown table base Close w = refl
  piece_parts-grown table base (Infix c) w = refl
  piece_parts-grown table base (Top t depth kept) w = parts-grown table base t depth text.top w.0
  piece_parts-grown table base (Inner t depth) w = parts-grown table base t depth text.inner w
  piece_parts-grown table base (Argument t depth) w = ap (λ (ps : List Part). space ∷ ps) (parts-grown table base t depth text.inner w)

  piece_size-grown : (base : ℕ) (p : Piece) → IsPiece base g p → piece_size base h p ≡ piece_size base g p
  piece_size-grown base Close w = refl
  piece_size-grown base (Infix c) w = refl
  piece_size-grown base (Top t depth kept) w = ap (λ (ps : List Part). 2 * length ps) (parts-grown [] base t depth text.top w.0)
  piece_size-grown base (Inner t depth) w = ap (λ (ps : List Part). 2 * length ps) (parts-grown [] base t depth text.inner w)
  piece_size-grown base (Argument t depth) w = ap (λ (ps : List Part). 1 + 2 * length ps) (parts-grown [] base t depth text.inner w)

  pub pieces-grown : (base : ℕ) (ps : List Piece) → ArePieces base g ps → ArePieces base h ps
  pieces-grown base [] w = tt
  pieces-grown base (p ∷ ps) w = (piece-grown base p w.0, pieces-grown base ps w.1)

  pub work-grown : (table : List (List ℕ)) (base : ℕ) (ps : List Piece) → ArePieces base g ps → work_parts table base h ps ≡ work_parts table base g ps
  work-grown table base [] w = refl
  work-grown table base (p ∷ ps) w = ap₂ (λ (x y : List Part). x ++ y) (piece_parts-grown table base p w.0) (work-grown table base ps w.1)

  pub size-grown : (base : ℕ) (ps : List Piece) → ArePieces base g ps → work_size base h ps ≡ work_size base g ps
  size-grown base [] w = refl
  size-grown base (p ∷ ps) w = ap₂ (λ (x y : ℕ). x + y) (piece_size-grown base p w.0) (size-grown base ps w.1)

-- arguments on the work list
module _ (table : List (List ℕ)) (base : ℕ) (g : Graph) (depth : ℕ) (rest : List Piece) where
  pub args-parts : (ts : List TermId) → work_parts table base g (argument_pieces depth ts ++ rest) ≡ argument_parts table (name_parts base) (index_parts table) (depth - base) (all_read g ts) ++ work_parts table base g rest
  args-parts [] = refl
  args-parts (t ∷ ts) =
      ap (λ (ps : List Part). space ∷ node_parts table base g t depth text.inner ++ ps) (args-parts ts)
      ∙ ap (λ (ps : List Part). space ∷ ps) (sym (append_assoc (node_parts table base g t depth text.inner) (argument_parts table (name_parts base) (index_parts table) (depth - base) (all_read g ts)) (work_parts table base g rest)))

  pub args-pieces : (ts : List TermId) → AllValidAt g ts depth → base ≤ depth → ArePieces base g rest → ArePieces base g (argument_pieces depth ts ++ rest)
  args-pieces [] w l r = r
  args-pieces (t ∷ ts) w l r = (record { valid = w.0; deep = l }, args-pieces ts w.1 l r)

  pub args-size : (ts : List TermId) → work_size base g (argument_pieces depth ts ++ rest) ≤ 2 * length (argument_parts [] (name_parts base) (index_parts []) (depth - base) (all_read g ts)) + work_size base g rest
  args-size [] = omega arith
  args-size (t ∷ ts) =
      let more = args-size ts in
      let sum = length-append (node_parts [] base g t depth text.inner) (argument_parts [] (name_parts base) (index_parts []) (depth - base) (all_read g ts)) in
      omega (arith, more, sum)

-- the text of a head that isn't a variable
pub head-is : (table : List (List ℕ)) (base : ℕ) (k : RigidHead) → head_part table (name_parts base) (index_parts table) (rigid_head k) ≡ Bytes (rigid_bytes table base k)
head-is table base (Con c) = refl
head-is table base (Int n) = refl
head-is table base (Str s) = refl
head-is table base (Level l) = refl

prefixed-var : (v : ℕ) (ts : List Term) → IsPrefixed (term.Var v) ts
prefixed-var v [] = tt
prefixed-var v (a ∷ []) = tt
prefixed-var v (a ∷ b ∷ []) = refl
prefixed-var v (a ∷ b ∷ c ∷ ts) = tt

module _ (table : List (List ℕ)) (base : ℕ) (g : Graph) (depth : ℕ) (rest : List Piece) (deep : base ≤ depth) (there : ArePieces base g rest) where
  -- a head is written, and its arguments are left
  prefixed-leaves : (k : term.Head) (ts : List TermId) (old new : Page) → IsPrefixed k (all_read g ts) → AllValidAt g ts depth
      → Prints old (head_part table (name_parts base) (index_parts table) k ∷ (argument_parts table (name_parts base) (index_parts table) (depth - base) (all_read g ts) ++ work_parts table base g rest)) new (argument_parts table (name_parts base) (index_parts table) (depth - base) (all_read g ts) ++ work_parts table base g rest)
      → LeavesTerm table base text.top g (apply_all (At k) (all_read g ts)) depth rest old g new (argument_pieces depth ts ++ rest)
  prefixed-leaves k ts old new w v p = record {
    prints = prints-same old new _ _ _ _
        (ap (λ (ps : List Part). ps ++ work_parts table base g rest) (head-top table (name_parts base) (index_parts table) k (all_read g ts) (depth - base) w))
        (sym (args-parts table base g depth rest ts)) p;
    pieces = args-pieces table base g depth rest ts v deep there;
    falls =
        let long = ap (λ (ps : List Part). length ps) (head-top [] (name_parts base) (index_parts []) k (all_read g ts) (depth - base) w) in
        let less = args-size table base g depth rest ts in
        omega (arith, long, less);
  }

  pub rigid-leaves : (k : RigidHead) (ts : List TermId) (t seen : List ℕ) → IsPrefixed (rigid_head k) (all_read g ts) → AllValidAt g ts depth →
      LeavesTerm table base text.top g (apply_all (At (rigid_head k)) (all_read g ts)) depth rest (page t seen) g (page (t ++ rigid_bytes table base k) seen) (argument_pieces depth ts ++ rest)
  rigid-leaves k ts t seen w v =
      prefixed-leaves (rigid_head k) ts (page t seen) (page (t ++ rigid_bytes table base k) seen) w v
      (prints-same _ _ _ _ _ _ (ap (λ (q : Part). q ∷ (argument_parts table (name_parts base) (index_parts table) (depth - base) (all_read g ts) ++ work_parts table base g rest)) (head-is table base k)) refl
      (prints-bytes t seen (rigid_bytes table base k) (argument_parts table (name_parts base) (index_parts table) (depth - base) (all_read g ts) ++ work_parts table base g rest)))

  pub flex-leaves : (v : ℕ) (ts : List TermId) (t seen : List ℕ) → AllValidAt g ts depth →
      LeavesTerm table base text.top g (apply_all (At (term.Var v)) (all_read g ts)) depth rest (page t seen) g (page (t ++ 63 ∷ decimal (place_of v seen)) (seen_also v seen)) (argument_pieces depth ts ++ rest)
  flex-leaves v ts t seen w =
      prefixed-leaves (term.Var v) ts (page t seen) (page (t ++ 63 ∷ decimal (place_of v seen)) (seen_also v seen)) (prefixed-var v (all_read g ts)) w
      (prints-free t seen v (argument_parts table (name_parts base) (index_parts table) (depth - base) (all_read g ts) ++ work_parts table base g rest))

  -- an infix constant and its arguments are left
  pub infix-leaves : (c : Sym) (a b : TermId) (p : Page) → infix_word (word_of c.0) ≡ true → IsValid g a.index depth → IsValid g b.index depth →
      LeavesTerm table base text.top g (apply_all (At (term.Con c.0)) (all_read g (a ∷ b ∷ []))) depth rest p g p (Inner a depth ∷ Infix c ∷ Inner b depth ∷ rest)
  infix-leaves c a b p e v w =
      let left = node_parts table base g a depth text.inner in
      let right = node_parts table base g b depth text.inner in
      record {
        prints = prints-same p p _ _ _ _ refl
            (ap (λ (ps : List Part). ps ++ work_parts table base g rest) (infix-top table (name_parts base) (index_parts table) c.0 (read g a.index names) (read g b.index names) (depth - base) e)
            ∙ append_assoc (node_parts table base g a depth text.inner) (space ∷ Bytes (symbol table c.0) ∷ space ∷ node_parts table base g b depth text.inner) (work_parts table base g rest))
            (prints-none p (opened_parts table base (apply_all (At (term.Con c.0)) (all_read g (a ∷ b ∷ []))) text.top (depth - base) ++ work_parts table base g rest));
        pieces = (record { valid = v; deep = deep }, (tt, (record { valid = w; deep = deep }, there)));
        falls =
            let long = ap (λ (ps : List Part). length ps) (infix-top [] (name_parts base) (index_parts []) c.0 (read g a.index names) (read g b.index names) (depth - base) e) in
            let sum = length-append (node_parts [] base g a depth text.inner) (space ∷ Bytes (symbol [] c.0) ∷ space ∷ node_parts [] base g b depth text.inner) in
            omega (arith, long, sum);
      }

-- the text of an abstraction, by that of its body
pub lam-parts : (table : List (List ℕ)) (base depth : ℕ) (b : Term) → base ≤ depth → opened_parts table base (term.Lam b) text.top (depth - base) ≡ Bytes (binder_bytes (depth - base)) ∷ opened_parts table base (sub (first (names depth)) b) text.top (depth + 1 - base)
lam-parts table base depth b l =
    let at : base + (depth - base) ≡ depth = omega (arith, l) in
    let next : suc (depth - base) ≡ depth + 1 - base = omega (arith, l) in
    ap (λ (ps : List Part). Bytes (binder_bytes (depth - base)) ∷ ps)
    (sym (parts-opened table base (depth - base) b)
    ∙ ap₂ (λ (n e : ℕ). opened_parts table base (sub (first (At (term.Name n))) b) text.top e) at next)

pub abstraction-is : (u : Term) → IsAbstraction u → (b : Term) × (u ≡ term.Lam b)
abstraction-is (term.Lam b) w = (b, refl)
abstraction-is (At h) w = absurd w
abstraction-is (term.App f a) w = absurd w

-- the front of an abstraction is written, and its body is left
pub lam-leaves : (table : List (List ℕ)) (base : ℕ) (g h : Graph) → IsSound g → Grows g h [] [] → (depth : ℕ) (rest : List Piece) → base ≤ depth → ArePieces base g rest → (u b : Term) → u ≡ term.Lam b → (node : TermId) (kept : ℕ)
    → AreKept h node.index kept → IsValid h node.index (depth + 1) → read h node.index names ≡ sub (first (names depth)) b → (t seen : List ℕ)
    → LeavesTerm table base text.top g u depth rest (page t seen) h (page (t ++ binder_bytes (depth - base)) seen) (Top node (depth + 1) kept ∷ rest)
lam-leaves table base g h s gr depth rest deep there u b e node kept k v r t seen =
    record {
      prints = prints-same (page t seen) (page (t ++ binder_bytes (depth - base)) seen) _ _ _ _
          (ap (λ (x : Term). opened_parts table base x text.top (depth - base) ++ work_parts table base g rest) e
          ∙ ap (λ (ps : List Part). ps ++ work_parts table base g rest) (lam-parts table base depth b deep))
          (ap₂ (λ (x : Term) (ps : List Part). opened_parts table base x text.top (depth + 1 - base) ++ ps) (sym r) (sym (work-grown g h s gr table base rest there)))
          (prints-bytes t seen (binder_bytes (depth - base)) (opened_parts table base (sub (first (names depth)) b) text.top (depth + 1 - base) ++ work_parts table base g rest));
      pieces = ((record { valid = v; deep = omega (arith, deep) }, k), pieces-grown g h s gr base rest there);
      falls =
          let long = ap (λ (x : Term). length (opened_parts [] base x text.top (depth - base))) e ∙ ap (λ (ps : List Part). length ps) (lam-parts [] base depth b deep) in
          let body = ap (λ (x : Term). length (opened_parts [] base x text.top (depth + 1 - base))) r in
          let same = size-grown g h s gr base rest there in
          omega (arith, long, body, same);
    }

-- brackets around a term, before arguments
bracket-parts : (top args rest : List Part) → (bracketed top ++ args) ++ rest ≡ Bytes (40 ∷ []) ∷ (top ++ (Bytes (41 ∷ []) ∷ (args ++ rest)))
bracket-parts top args rest =
    append_assoc (bracketed top) args rest
    ∙ ap (λ (ps : List Part). Bytes (40 ∷ []) ∷ ps) (append_assoc top (Bytes (41 ∷ []) ∷ []) (args ++ rest))

-- the first argument is stuck
pub redex-parts : (table : List (List ℕ)) (base : ℕ) (g : Graph) (u : Term) (ts : List TermId) (d : ℕ) → IsAbstraction u → FirstUnready g ts →
    opened_parts table base (apply_all u (all_read g ts)) text.top d ≡ bracketed (opened_parts table base u text.top d) ++ argument_parts table (name_parts base) (index_parts table) d (all_read g ts)
redex-parts table base g (term.Lam b) (t ∷ ts) d w r = redex-top table (name_parts base) (index_parts table) b (read g t.index names) (all_read g ts) d r
redex-parts table base g (term.Lam b) [] d w r = absurd r
redex-parts table base g (At h) ts d w r = absurd w
redex-parts table base g (term.App f a) ts d w r = absurd w

length-bracketed : (ps : List Part) → length (bracketed ps) ≡ length ps + 2
length-bracketed ps = let sum = length-append ps (Bytes (41 ∷ []) ∷ []) in omega (arith, sum)

module _ (table : List (List ℕ)) (base : ℕ) (g h : Graph) (depth : ℕ) (rest : List Piece) (u : Term) (t seen : List ℕ) where
  -- an opening bracket is written before an abstraction with arguments
  pub redex-leaves : (ts : List TermId) → IsAbstraction u → FirstUnready g ts → (new : Page) (left : List Piece)
      → LeavesTerm table base text.top g u depth (Close ∷ argument_pieces depth ts ++ rest) (page (t ++ 40 ∷ []) seen) h new left
      → LeavesTerm table base text.top g (apply_all u (all_read g ts)) depth rest (page t seen) h new left
  redex-leaves ts a r new left w = record {
    prints = prints-same (page t seen) new _ _ _ _
        (ap (λ (ps : List Part). ps ++ work_parts table base g rest) (redex-parts table base g u ts (depth - base) a r)
        ∙ bracket-parts (opened_parts table base u text.top (depth - base)) (argument_parts table (name_parts base) (index_parts table) (depth - base) (all_read g ts)) (work_parts table base g rest)
        ∙ ap (λ (ps : List Part). Bytes (40 ∷ []) ∷ (opened_parts table base u text.top (depth - base) ++ (Bytes (41 ∷ []) ∷ ps))) (sym (args-parts table base g depth rest ts)))
        refl
        (prints-trans (page t seen) (page (t ++ 40 ∷ []) seen) new _ _ _
        (prints-bytes t seen (40 ∷ []) (opened_parts table base u text.top (depth - base) ++ work_parts table base g (Close ∷ argument_pieces depth ts ++ rest))) w.prints);
    pieces = w.pieces;
    falls =
        let long = ap (λ (ps : List Part). length ps) (redex-parts [] base g u ts (depth - base) a r)
        ∙ length-append (bracketed (opened_parts [] base u text.top (depth - base))) (argument_parts [] (name_parts base) (index_parts []) (depth - base) (all_read g ts)) in
        let two = length-bracketed (opened_parts [] base u text.top (depth - base)) in
        let less = args-size table base g depth rest ts in
        let falls = w.falls in
        omega (arith, long, two, less, falls);
  }

  pub redex-stops : (ts : List TermId) → IsAbstraction u → FirstUnready g ts → (new : List ℕ) → new ≡ t ++ 40 ∷ [] → StopsTerm table base text.top g (apply_all u (all_read g ts)) depth rest (page t seen) new
  redex-stops ts a r new e =
      stops-same (page t seen) (Bytes (40 ∷ []) ∷ (opened_parts table base u text.top (depth - base) ++ work_parts table base g (Close ∷ argument_pieces depth ts ++ rest))) _ new
      (ap (λ (ps : List Part). ps ++ work_parts table base g rest) (redex-parts table base g u ts (depth - base) a r)
      ∙ bracket-parts (opened_parts table base u text.top (depth - base)) (argument_parts table (name_parts base) (index_parts table) (depth - base) (all_read g ts)) (work_parts table base g rest)
      ∙ ap (λ (ps : List Part). Bytes (40 ∷ []) ∷ (opened_parts table base u text.top (depth - base) ++ (Bytes (41 ∷ []) ∷ ps))) (sym (args-parts table base g depth rest ts)))
      (stops-later (page t seen) (page (t ++ 40 ∷ []) seen) _ (opened_parts table base u text.top (depth - base) ++ work_parts table base g (Close ∷ argument_pieces depth ts ++ rest)) new
      (prints-bytes t seen (40 ∷ []) (opened_parts table base u text.top (depth - base) ++ work_parts table base g (Close ∷ argument_pieces depth ts ++ rest)))
      (subst (λ (x : List ℕ). Stops (page (t ++ 40 ∷ []) seen) (opened_parts table base u text.top (depth - base) ++ work_parts table base g (Close ∷ argument_pieces depth ts ++ rest)) x) (sym e)
      (stops-now (page (t ++ 40 ∷ []) seen) (opened_parts table base u text.top (depth - base) ++ work_parts table base g (Close ∷ argument_pieces depth ts ++ rest)))))

  -- the inner form of a head alone
  bare-parts : (tb : List (List ℕ)) → is_bare u ≡ true → opened_parts tb base u text.inner (depth - base) ≡ opened_parts tb base u text.top (depth - base)
  bare-parts tb e = inner-form tb (name_parts base) (index_parts tb) u (depth - base) ∙ ap (λ (b : Bool). cond b (opened_parts tb base u text.top (depth - base)) (bracketed (opened_parts tb base u text.top (depth - base)))) e

  bracketed-parts : (tb : List (List ℕ)) → is_bare u ≡ false → opened_parts tb base u text.inner (depth - base) ≡ bracketed (opened_parts tb base u text.top (depth - base))
  bracketed-parts tb e = inner-form tb (name_parts base) (index_parts tb) u (depth - base) ∙ ap (λ (b : Bool). cond b (opened_parts tb base u text.top (depth - base)) (bracketed (opened_parts tb base u text.top (depth - base)))) e

  pub bare-leaves : is_bare u ≡ true → (new : Page) (left : List Piece) → LeavesTerm table base text.top g u depth rest (page t seen) h new left → LeavesTerm table base text.inner g u depth rest (page t seen) h new left
  bare-leaves e new left w = record {
    prints = prints-same (page t seen) new _ _ _ _ (ap (λ (ps : List Part). ps ++ work_parts table base g rest) (bare-parts table e)) refl w.prints;
    pieces = w.pieces;
    falls = let long = ap (λ (ps : List Part). length ps) (bare-parts [] e) in let falls = w.falls in omega (arith, long, falls);
  }

  pub bare-stops : is_bare u ≡ true → (new : List ℕ) → StopsTerm table base text.top g u depth rest (page t seen) new → StopsTerm table base text.inner g u depth rest (page t seen) new
  bare-stops e new w = stops-same (page t seen) (opened_parts table base u text.top (depth - base) ++ work_parts table base g rest) _ new (ap (λ (ps : List Part). ps ++ work_parts table base g rest) (bare-parts table e)) w

  -- an opening bracket is written
  open-parts : is_bare u ≡ false → opened_parts table base u text.inner (depth - base) ++ work_parts table base g rest ≡ Bytes (40 ∷ []) ∷ (opened_parts table base u text.top (depth - base) ++ work_parts table base g (Close ∷ rest))
  open-parts e =
      ap (λ (ps : List Part). ps ++ work_parts table base g rest) (bracketed-parts table e)
      ∙ ap (λ (ps : List Part). Bytes (40 ∷ []) ∷ ps) (append_assoc (opened_parts table base u text.top (depth - base)) (Bytes (41 ∷ []) ∷ []) (work_parts table base g rest))

  pub bracket-leaves : is_bare u ≡ false → (new : Page) (left : List Piece) → LeavesTerm table base text.top g u depth (Close ∷ rest) (page (t ++ 40 ∷ []) seen) h new left → LeavesTerm table base text.inner g u depth rest (page t seen) h new left
  bracket-leaves e new left w = record {
    prints = prints-same (page t seen) new _ _ _ _ (open-parts e) refl
        (prints-trans (page t seen) (page (t ++ 40 ∷ []) seen) new _ _ _
        (prints-bytes t seen (40 ∷ []) (opened_parts table base u text.top (depth - base) ++ work_parts table base g (Close ∷ rest))) w.prints);
    pieces = w.pieces;
    falls =
        let long = ap (λ (ps : List Part). length ps) (bracketed-parts [] e) in
        let two = length-bracketed (opened_parts [] base u text.top (depth - base)) in
        let falls = w.falls in
        omega (arith, long, two, falls);
  }

  pub bracket-stops : is_bare u ≡ false → (new : List ℕ) → StopsTerm table base text.top g u depth (Close ∷ rest) (page (t ++ 40 ∷ []) seen) new → StopsTerm table base text.inner g u depth rest (page t seen) new
  bracket-stops e new w =
      stops-same (page t seen) (Bytes (40 ∷ []) ∷ (opened_parts table base u text.top (depth - base) ++ work_parts table base g (Close ∷ rest))) _ new (open-parts e)
      (stops-later (page t seen) (page (t ++ 40 ∷ []) seen) _ (opened_parts table base u text.top (depth - base) ++ work_parts table base g (Close ∷ rest)) new
      (prints-bytes t seen (40 ∷ []) (opened_parts table base u text.top (depth - base) ++ work_parts table base g (Close ∷ rest))) w)

-- a look at the node adds nodes alone
pub looked-leaves : (table : List (List ℕ)) (base : ℕ) (k : Form) (g m h : Graph) → IsSound g → Grows g m [] [] → (u v : Term) → u ≡ v → (depth : ℕ) (rest : List Piece) → ArePieces base g rest → (old new : Page) (left : List Piece)
    → LeavesTerm table base k m v depth rest old h new left → LeavesTerm table base k g u depth rest old h new left
looked-leaves table base k g m h s gr u v e depth rest there old new left w = record {
  prints = prints-same old new _ _ _ _ (ap₂ (λ (x : Term) (ps : List Part). opened_parts table base x k (depth - base) ++ ps) e (sym (work-grown g m s gr table base rest there))) refl w.prints;
  pieces = w.pieces;
  falls =
      let long = ap (λ (x : Term). length (opened_parts [] base x k (depth - base))) e in
      let same = size-grown g m s gr base rest there in
      let falls = w.falls in
      omega (arith, long, same, falls);
}

pub looked-stops : (table : List (List ℕ)) (base : ℕ) (k : Form) (g m : Graph) → IsSound g → Grows g m [] [] → (u v : Term) → u ≡ v → (depth : ℕ) (rest : List Piece) → ArePieces base g rest → (old : Page) (new : List ℕ)
    → StopsTerm table base k m v depth rest old new → StopsTerm table base k g u depth rest old new
looked-stops table base k g m s gr u v e depth rest there old new w =
    stops-same old (opened_parts table base v k (depth - base) ++ work_parts table base m rest) _ new
    (ap₂ (λ (x : Term) (ps : List Part). opened_parts table base x k (depth - base) ++ ps) e (sym (work-grown g m s gr table base rest there))) w

-- pages and work lists that are equal
pub leaves-same : (table : List (List ℕ)) (base : ℕ) (old : Page) (ps : List Part) (bound : ℕ) (g : Graph) (new new' : Page) (work work' : List Piece) → new' ≡ new → work' ≡ work → Leaves table base old ps bound g new work → Leaves table base old ps bound g new' work'
leaves-same table base old ps bound g new new' work work' e f w =
    subst (λ (x : Page). Leaves table base old ps bound g x work') (sym e) (subst (λ (x : List Piece). Leaves table base old ps bound g new x) (sym f) w)

-- the last piece of a work list is the next one
pub pushed-one : (old new : List Piece) (p : Piece) → new ≡ old ++ p ∷ [] → reverse new ≡ p ∷ reverse old
pushed-one old new p e = ap reverse e ∙ reverse-append old (p ∷ [])

pub pushed-all : (old new : List Piece) (ps : List Piece) → new ≡ old ++ reverse ps → reverse new ≡ ps ++ reverse old
pushed-all old new ps e = ap reverse e ∙ reverse-append old (reverse ps) ∙ ap (λ (qs : List Piece). qs ++ reverse old) (reverse-reverse ps)

pub pushed-three : (old new : List Piece) (a b c : Piece) → new ≡ old ++ a ∷ b ∷ c ∷ [] → reverse new ≡ c ∷ b ∷ a ∷ reverse old
pushed-three old new a b c e = ap reverse e ∙ reverse-append old (a ∷ b ∷ c ∷ [])

pub lam-printed : (table : List (List ℕ)) (base : ℕ) (g h : Graph) → IsSound g → Grows g h [] [] → (depth : ℕ) (work new : List Piece) → base ≤ depth → ArePieces base g (reverse work) → (u : Term) → IsAbstraction u → (node : TermId) (inside kept : ℕ) → inside ≡ depth + 1
    → AreKept h node.index kept → IsValid h node.index (depth + 1) → ((b : Term) → u ≡ term.Lam b → read h node.index names ≡ sub (first (names depth)) b) → new ≡ work ++ Top node inside kept ∷ [] → (t t' seen : List ℕ) → t' ≡ t ++ binder_bytes (depth - base)
    → LeavesTerm table base text.top g u depth (reverse work) (page t seen) h (page t' seen) (reverse new)
lam-printed table base g h s gr depth work new deep there u w node inside kept i k v r e t t' seen q =
    let is = abstraction-is u w in
    leaves-same table base (page t seen) _ _ h (page (t ++ binder_bytes (depth - base)) seen) (page t' seen) (Top node (depth + 1) kept ∷ reverse work) (reverse new)
    (ap (λ (x : List ℕ). page x seen) q)
    (pushed-one work new (Top node inside kept) e ∙ ap (λ (d : ℕ). Top node d kept ∷ reverse work) i)
    (lam-leaves table base g h s gr depth (reverse work) deep there u is.0 is.1 node kept k v (r is.0 is.1) t seen)

pub rigid-printed : (table : List (List ℕ)) (base : ℕ) (g : Graph) (depth : ℕ) (work new : List Piece) → base ≤ depth → ArePieces base g (reverse work) → (k : RigidHead) (ts : List TermId) → ((us : List Term) → length us ≡ length ts → IsPrefixed (rigid_head k) us) → AllValidAt g ts depth
    → new ≡ work ++ reverse (argument_pieces depth ts) → (t t' seen : List ℕ) → t' ≡ t ++ rigid_bytes table base k
    → LeavesTerm table base text.top g (apply_all (At (rigid_head k)) (all_read g ts)) depth (reverse work) (page t seen) g (page t' seen) (reverse new)
rigid-printed table base g depth work new deep there k ts w v e t t' seen q =
    leaves-same table base (page t seen) _ _ g (page (t ++ rigid_bytes table base k) seen) (page t' seen) (argument_pieces depth ts ++ reverse work) (reverse new)
    (ap (λ (x : List ℕ). page x seen) q) (pushed-all work new (argument_pieces depth ts) e)
    (rigid-leaves table base g depth (reverse work) deep there k ts t seen (w (all_read g ts) (length-map ts (λ (x : TermId). read g x.index names))) v)

pub rigid-stops : (table : List (List ℕ)) (base : ℕ) (g : Graph) (depth : ℕ) (rest : List Piece) (k : RigidHead) (ts : List TermId) → ((us : List Term) → length us ≡ length ts → IsPrefixed (rigid_head k) us) → (t new seen : List ℕ) → GainsFront (rigid_bytes table base k) t new
    → StopsTerm table base text.top g (apply_all (At (rigid_head k)) (all_read g ts)) depth rest (page t seen) new
rigid-stops table base g depth rest k ts w t new seen s =
    stops-same (page t seen) (Bytes (rigid_bytes table base k) ∷ (argument_parts table (name_parts base) (index_parts table) (depth - base) (all_read g ts) ++ work_parts table base g rest)) _ new
    (ap (λ (ps : List Part). ps ++ work_parts table base g rest) (head-top table (name_parts base) (index_parts table) (rigid_head k) (all_read g ts) (depth - base) (w (all_read g ts) (length-map ts (λ (x : TermId). read g x.index names))))
    ∙ ap (λ (q : Part). q ∷ (argument_parts table (name_parts base) (index_parts table) (depth - base) (all_read g ts) ++ work_parts table base g rest)) (head-is table base k))
    (stops-bytes (page t seen) (rigid_bytes table base k) (argument_parts table (name_parts base) (index_parts table) (depth - base) (all_read g ts) ++ work_parts table base g rest) new s)

pub flex-printed : (table : List (List ℕ)) (base : ℕ) (g : Graph) (depth : ℕ) (work new : List Piece) → base ≤ depth → ArePieces base g (reverse work) → (v : ℕ) (ts : List TermId) → AllValidAt g ts depth
    → new ≡ work ++ reverse (argument_pieces depth ts) → (t t' seen seen' : List ℕ) → t' ≡ t ++ 63 ∷ decimal (place_of v seen) → seen' ≡ seen_also v seen
    → LeavesTerm table base text.top g (apply_all (At (term.Var v)) (all_read g ts)) depth (reverse work) (page t seen) g (page t' seen') (reverse new)
flex-printed table base g depth work new deep there v ts w e t t' seen seen' q r =
    leaves-same table base (page t seen) _ _ g (page (t ++ 63 ∷ decimal (place_of v seen)) (seen_also v seen)) (page t' seen') (argument_pieces depth ts ++ reverse work) (reverse new)
    (ap₂ page q r) (pushed-all work new (argument_pieces depth ts) e)
    (flex-leaves table base g depth (reverse work) deep there v ts t seen w)

pub infix-printed : (table : List (List ℕ)) (base : ℕ) (g : Graph) (depth : ℕ) (work new : List Piece) → base ≤ depth → ArePieces base g (reverse work) → (k : RigidHead) (c : Sym) (ts : List TermId) (a b : TermId) → rigid_head k ≡ term.Con c.0 → infix_word (word_of c.0) ≡ true → ts ≡ a ∷ b ∷ [] → AllValidAt g ts depth
    → new ≡ work ++ Inner b depth ∷ Infix c ∷ Inner a depth ∷ [] → (p : Page)
    → LeavesTerm table base text.top g (apply_all (At (rigid_head k)) (all_read g ts)) depth (reverse work) p g p (reverse new)
infix-printed table base g depth work new deep there k c ts a b h i l v e p =
    let valid = subst (λ (x : List TermId). AllValidAt g x depth) l v in
    subst (λ (q : term.Head). LeavesTerm table base text.top g (apply_all (At q) (all_read g ts)) depth (reverse work) p g p (reverse new)) (sym h)
    (subst (λ (x : List TermId). LeavesTerm table base text.top g (apply_all (At (term.Con c.0)) (all_read g x)) depth (reverse work) p g p (reverse new)) (sym l)
    (leaves-same table base p _ _ g p p (Inner a depth ∷ Infix c ∷ Inner b depth ∷ reverse work) (reverse new) refl (pushed-three work new (Inner b depth) (Infix c) (Inner a depth) e)
    (infix-leaves table base g depth (reverse work) deep there c a b p i valid.0 valid.1.0)))

-- two items
pub two-items : (ts : List TermId) (d : TermId) → length ts ≡ 2 → ts ≡ get_or ts 0 d ∷ get_or ts 1 d ∷ []
two-items [] d e = absurd (omega (arith, e))
two-items (a ∷ []) d e = absurd (omega (arith, e))
two-items (a ∷ b ∷ []) d e = refl
two-items (a ∷ b ∷ c ∷ ts) d e = absurd (omega (arith, e))

-- what is pushed for an abstraction with arguments
pub pushed-redex : (work one two : List Piece) (depth : ℕ) (ts : List TermId) → one ≡ work ++ reverse (argument_pieces depth ts) → two ≡ one ++ Close ∷ [] → reverse two ≡ Close ∷ argument_pieces depth ts ++ reverse work
pushed-redex work one two depth ts e f = pushed-one one two Close f ∙ ap (λ (ps : List Piece). Close ∷ ps) (pushed-all work one (argument_pieces depth ts) e)

pub redex-printed : (table : List (List ℕ)) (base : ℕ) (g h : Graph) (depth : ℕ) (work one two : List Piece) (u : Term) (t t' out seen : List ℕ) (ts : List TermId) → IsAbstraction u → FirstUnready g ts → (left : List Piece)
    → one ≡ work ++ reverse (argument_pieces depth ts) → two ≡ one ++ Close ∷ [] → t' ≡ t ++ 40 ∷ []
    → LeavesTerm table base text.top g u depth (reverse two) (page t' seen) h (page out seen) left
    → LeavesTerm table base text.top g (apply_all u (all_read g ts)) depth (reverse work) (page t seen) h (page out seen) left
redex-printed table base g h depth work one two u t t' out seen ts a r left e f q w =
    redex-leaves table base g h depth (reverse work) u t seen ts a r (page out seen) left
    (subst (λ (x : List ℕ). LeavesTerm table base text.top g u depth (Close ∷ argument_pieces depth ts ++ reverse work) (page x seen) h (page out seen) left) q
    (subst (λ (ps : List Piece). LeavesTerm table base text.top g u depth ps (page t' seen) h (page out seen) left) (pushed-redex work one two depth ts e f) w))

pub bracket-printed : (table : List (List ℕ)) (base : ℕ) (g h : Graph) (depth : ℕ) (work one : List Piece) (u : Term) (t t' seen : List ℕ) → is_bare u ≡ false → one ≡ work ++ Close ∷ [] → t' ≡ t ++ 40 ∷ [] → (new : Page) (left : List Piece)
    → LeavesTerm table base text.top g u depth (reverse one) (page t' seen) h new left → LeavesTerm table base text.inner g u depth (reverse work) (page t seen) h new left
bracket-printed table base g h depth work one u t t' seen b e q new left w =
    bracket-leaves table base g h depth (reverse work) u t seen b new left
    (subst (λ (x : List ℕ). LeavesTerm table base text.top g u depth (Close ∷ reverse work) (page x seen) h new left) q
    (subst (λ (ps : List Piece). LeavesTerm table base text.top g u depth ps (page t' seen) h new left) (pushed-one work one Close e) w))

pub bracket-stopped : (table : List (List ℕ)) (base : ℕ) (g h : Graph) (depth : ℕ) (work one : List Piece) (u : Term) (t t' seen : List ℕ) → is_bare u ≡ false → one ≡ work ++ Close ∷ [] → t' ≡ t ++ 40 ∷ [] → (new : List ℕ)
    → StopsTerm table base text.top g u depth (reverse one) (page t' seen) new → StopsTerm table base text.inner g u depth (reverse work) (page t seen) new
bracket-stopped table base g h depth work one u t t' seen b e q new w =
    bracket-stops table base g h depth (reverse work) u t seen b new
    (subst (λ (x : List ℕ). StopsTerm table base text.top g u depth (Close ∷ reverse work) (page x seen) new) q
    (subst (λ (ps : List Piece). StopsTerm table base text.top g u depth ps (page t' seen) new) (pushed-one work one Close e) w))

pub infix-stopped : (table : List (List ℕ)) (base : ℕ) (g : Graph) (c : Sym) (rest : List Piece) (t seen new : List ℕ) → GainsFront (infix_bytes table c) t new → Stops (page t seen) (work_parts table base g (Infix c ∷ rest)) new
infix-stopped table base g c rest t seen new s = (
  s.0,
  s.1,
  (
    s.2.0 ++ numbered seen (work_parts table base g rest),
    sym (append_assoc s.0 s.2.0 (numbered seen (work_parts table base g rest))) ∙ ap (λ (u : List ℕ). u ++ numbered seen (work_parts table base g rest)) s.2.1
        ∙ ap (λ (u : List ℕ). 32 ∷ u) (append_assoc (symbol table c.0) (32 ∷ []) (numbered seen (work_parts table base g rest))),
  ),
)

-- a space is written before an argument
module _ (table : List (List ℕ)) (base : ℕ) (g : Graph) (t : TermId) (depth : ℕ) (rest : List Piece) (piece : Piece) (is : piece ≡ Argument t depth) (out out' seen : List ℕ) (spaced : out' ≡ out ++ 32 ∷ []) where
  pub argument-printed : (h : Graph) (new : Page) (left : List Piece) → LeavesTerm table base text.inner g (read g t.index names) depth rest (page out' seen) h new left
      → Leaves table base (page out seen) (work_parts table base g (piece ∷ rest)) (work_size base g (piece ∷ rest)) h new left
  argument-printed h new left w =
      let spaced' : LeavesTerm table base text.inner g (read g t.index names) depth rest (page (out ++ 32 ∷ []) seen) h new left =
      subst (λ (x : List ℕ). LeavesTerm table base text.inner g (read g t.index names) depth rest (page x seen) h new left) spaced w in
      let all : Leaves table base (page out seen) (work_parts table base g (Argument t depth ∷ rest)) (work_size base g (Argument t depth ∷ rest)) h new left = record {
        prints = prints-trans (page out seen) (page (out ++ 32 ∷ []) seen) new _ _ _
            (prints-bytes out seen (32 ∷ []) (node_parts table base g t depth text.inner ++ work_parts table base g rest)) spaced'.prints;
        pieces = spaced'.pieces;
        falls = let falls = spaced'.falls in omega (arith, falls);
      } in
      subst (λ (p : Piece). Leaves table base (page out seen) (work_parts table base g (p ∷ rest)) (work_size base g (p ∷ rest)) h new left) (sym is) all

  pub argument-stopped : (new : List ℕ) → StopsTerm table base text.inner g (read g t.index names) depth rest (page out' seen) new → Stops (page out seen) (work_parts table base g (piece ∷ rest)) new
  argument-stopped new w =
      subst (λ (p : Piece). Stops (page out seen) (work_parts table base g (p ∷ rest)) new) (sym is)
      (stops-later (page out seen) (page (out ++ 32 ∷ []) seen) _ (node_parts table base g t depth text.inner ++ work_parts table base g rest) new
      (prints-bytes out seen (32 ∷ []) (node_parts table base g t depth text.inner ++ work_parts table base g rest))
      (subst (λ (x : List ℕ). StopsTerm table base text.inner g (read g t.index names) depth rest (page x seen) new) spaced w))
