-- Operators that wait for an operand's value.
use Rattle.std.proofs.Common.{◌≡◌, ℕ, ◌<◌, ◌≤◌, ◌+◌, ℤ, List, [], ◌∷◌, ◌++◌, reverse, Some, Result, Ok, Err, IfErr, refl, sym, ap, ap₂, ◌∙◌, subst, arith}
use Rattle.std.proofs.lemmas.List.{reverse-append}
use Rattle.std.specs.Result.{IsErrAnd}
use Rattle.level_terms.specs.Graph.{Graph}
use Rattle.level_terms.specs.Growth.{Grows}
use Rattle.level_terms.specs.Reading.{read}
use Rattle.level_terms.specs.Sound.{IsSound}
use Rattle.level_terms.specs.Valid.{IsValid}
use Rattle.level_terms.proofs.ValidLemmas.{growth_keeps_readings, growth_keeps_valid}
use Rattle.ref_terms.specs.ending.Measure.{size, size-positive}
use Rattle.ref_terms.specs.search.Arithmetic.{value_of, calculated, combined}
use Rattle.ref_terms.specs.search.Fault.{Judged, Good, Bad}
use Rattle.ref_terms.specs.declared.fault.Fault.{Fault}
use Rattle.ref_terms.specs.declared.fault.Fault.TheVariants.{Number}
use Rattle.level_terms.specs.declared.node.TermId.{TermId}
use Rattle.beta_fragment.specs.Names.{names}
use Rattle.level_terms.proofs.ReadLemmas.{valid-below}
use Rattle.beta_fragment.specs.declared.answer.UnifyStop.{UnifyStop}
use Rattle.beta_fragment.specs.declared.answer.UnifyStop.TheVariants.{Memory}
use Rattle.builtins.specs.Outcome.{StopsBy}
use Rattle.builtins.specs.declared.evaluating.Frame.{Frame}
use Rattle.builtins.specs.declared.evaluating.Frame.TheVariants.{Left, Right}
use Rattle.builtins.specs.declared.number.Operator.{Operator}
use Rattle.builtins.specs.inside.Numbers.{operator_word, IsOperation}
use Rattle.builtins.specs.inside.Pending.{resumed, AllWait, waiting, HandsTo, IsHanding, IsEvaluating, left_of}

-- a fault goes through
pub fault-through : (g : Graph) (fs : List Frame) (e : Fault) → resumed g fs (Bad e) ≡ Bad e
fault-through g [] e = refl
fault-through g (Left w b ∷ fs) e = fault-through g fs e
fault-through g (Right w a ∷ fs) e = fault-through g fs e

module _ (g h : Graph) (sound : IsSound g) (grows : Grows g h [] []) (depth : ℕ) where
  same : (t : ℕ) → IsValid g t depth → read h t names ≡ read g t names
  same t v = growth_keeps_readings g h t names sound grows (valid-below g t depth v)

  -- frames mean what they meant
  pub resumed-later : (fs : List Frame) (j : Judged ℤ) → AllWait g depth fs → resumed h fs j ≡ resumed g fs j
  resumed-later [] j v = refl
  resumed-later (Left w b ∷ fs) j v = ap (λ t. resumed h fs (combined (Some (operator_word w)) j (value_of t))) (same b.index v.0) ∙ resumed-later fs (combined (Some (operator_word w)) j (value_of (read g b.index names))) v.1
  resumed-later (Right w a ∷ fs) j v = resumed-later fs (combined (Some (operator_word w)) (Good a) j) v

  pub waiting-later : (fs : List Frame) → AllWait g depth fs → waiting h fs ≡ waiting g fs
  waiting-later [] v = refl
  waiting-later (Left w b ∷ fs) v = ap₂ (λ (m n : ℕ). m + n) (ap size (same b.index v.0)) (waiting-later fs v.1)
  waiting-later (Right w a ∷ fs) v = waiting-later fs v

  pub wait-later : (fs : List Frame) → AllWait g depth fs → AllWait h depth fs
  wait-later [] v = tt
  wait-later (Left w b ∷ fs) v = (growth_keeps_valid g h [] [] b.index depth sound grows (valid-below g b.index depth v.0) v.0, wait-later fs v.1)
  wait-later (Right w a ∷ fs) v = wait-later fs v

-- the newest frame
pub newest-frame : (fs : List Frame) (f : Frame) → reverse (fs ++ f ∷ []) ≡ f ∷ reverse fs
newest-frame fs f = reverse-append fs (f ∷ [])

-- a value is handed on
pub handing-first : (fs : List Frame) (z : ℤ) → IsHanding fs fs z z
handing-first fs z = record { value = λ g. refl; waits = λ g depth v. v; less = λ g. omega arith }

module _ (old now fs : List Frame) (z v : ℤ) (w : Operator) (h : IsHanding old now z v) where
  pub handing-right : (a r : ℤ) → now ≡ Right w a ∷ fs → calculated (Some (operator_word w)) a v ≡ Good r → IsHanding old fs z r
  handing-right a r e c = record {
    value = λ g. h.value g ∙ ap (λ (xs : List Frame). resumed g xs (Good v)) e ∙ ap (resumed g fs) c;
    waits = λ g depth k. subst (AllWait g depth) e (h.waits g depth k);
    less = λ g. subst (λ (xs : List Frame). waiting g xs ≤ waiting g old) e (h.less g);
  }

  pub handing-stopped : (a : ℤ) → now ≡ Right w a ∷ fs → calculated (Some (operator_word w)) a v ≡ Bad Number → (g : Graph) → resumed g old (Good z) ≡ Bad Number
  handing-stopped a e c g = h.value g ∙ ap (λ (xs : List Frame). resumed g xs (Good v)) e ∙ ap (resumed g fs) c ∙ fault-through g fs Number

  pub handing-left : (b : TermId) → now ≡ Left w b ∷ fs → HandsTo old (Right w v ∷ fs) z b.index
  handing-left b e = record {
    value = λ g. h.value g ∙ ap (λ (xs : List Frame). resumed g xs (Good v)) e;
    waits = λ g depth k. subst (AllWait g depth) e (h.waits g depth k);
    less = λ g. subst (λ (xs : List Frame). waiting g xs ≤ waiting g old) e (h.less g);
  }

pub handing-done : (old now : List Frame) (z v : ℤ) → IsHanding old now z v → now ≡ [] → (g : Graph) → resumed g old (Good z) ≡ Good v
handing-done old now z v h e g = h.value g ∙ ap (λ (xs : List Frame). resumed g xs (Good v)) e

-- a frame that was taken from a list, oldest first
taken : (work left : List Frame) (f g : Frame) → work ≡ left ++ f ∷ [] → f ≡ g → reverse work ≡ g ∷ reverse left
taken work left f g e is = ap reverse e ∙ newest-frame left f ∙ ap (λ (x : Frame). x ∷ reverse left) is

module _ (old work left : List Frame) (z v : ℤ) (f : Frame) (h : IsHanding (reverse old) (reverse work) z v) (e : work ≡ left ++ f ∷ []) (w : Operator) where
  pub turn-left : (b : TermId) → f ≡ Left w b → (new : List Frame) (f' : Frame) → new ≡ left ++ f' ∷ [] → f' ≡ Right w v → HandsTo (reverse old) (reverse new) z b.index
  turn-left b is new f' e' is' =
      subst (λ (fs : List Frame). HandsTo (reverse old) fs z b.index) (sym (taken new left f' (Right w v) e' is'))
      (handing-left (reverse old) (reverse work) (reverse left) z v w h b (taken work left f (Left w b) e is))

  pub turn-right : (a r : ℤ) → f ≡ Right w a → calculated (Some (operator_word w)) a v ≡ Good r → IsHanding (reverse old) (reverse left) z r
  turn-right a r is c = handing-right (reverse old) (reverse work) (reverse left) z v w h a r (taken work left f (Right w a) e is) c

  pub turn-stopped : (a : ℤ) → f ≡ Right w a → calculated (Some (operator_word w)) a v ≡ Bad Number → (g : Graph) → resumed g (reverse old) (Good z) ≡ Bad Number
  turn-stopped a is c = handing-stopped (reverse old) (reverse work) (reverse left) z v w h a (taken work left f (Right w a) e is) c

-- want of memory
pub memory-by : {A : Type 0} (j : Judged A) (stop : UnifyStop) → stop ≡ Memory → StopsBy j stop
memory-by j stop e = subst (StopsBy j) (sym e) tt

-- a stop is handed on
pub handed_on : {A : Type 0} (P : UnifyStop → Type 0) (stop : UnifyStop) (r : Result A UnifyStop) → IsErrAnd r (λ e. e ≡ stop) → P stop → IfErr r P
handed_on P stop (Ok x) h s = tt
handed_on P stop (Err e) h s = subst P (sym h) s

-- evaluation
pub evaluating-first : (g : Graph) (depth : ℕ) (e : ℕ) (work : List Frame) → work ≡ [] → IsValid g e depth → IsEvaluating (value_of (read g e names)) g depth e (reverse work)
evaluating-first g depth e work none v = subst (λ (fs : List Frame). IsEvaluating (value_of (read g e names)) g depth e (reverse fs)) (sym none) (record { value = refl; valid = v; waits = tt })

module _ (whole : Judged ℤ) (g h : Graph) (sound : IsSound g) (grows : Grows g h [] []) (depth node : ℕ) (fs : List Frame) (i : IsEvaluating whole g depth node fs) where
  waiting-same : waiting h fs ≡ waiting g fs
  waiting-same = waiting-later g h sound grows depth fs i.waits

  -- of an operator's operands
  module _ (w : Operator) (a b : TermId) (o : IsOperation h depth (read g node names) w a.index b.index) where
    pub evaluating-operands : IsEvaluating whole h depth a.index (Left w b ∷ fs)
    evaluating-operands = record {
      value = i.value ∙ ap (resumed g fs) o.value ∙ sym (resumed-later g h sound grows depth fs (combined (Some (operator_word w)) (value_of (read h a.index names)) (value_of (read h b.index names))) i.waits);
      valid = o.left;
      waits = (o.right, wait-later g h sound grows depth fs i.waits);
    }

    pub operands-fall : left_of h a.index (Left w b ∷ fs) < left_of g node fs
    operands-fall = let less = o.less in let same = waiting-same in omega (arith, less, same)

  -- of a value that is handed on
  module _ (z : ℤ) (e : value_of (read g node names) ≡ Good z) where
    pub value-now : (k : Judged ℤ) → resumed h fs (Good z) ≡ k → whole ≡ k
    value-now k r = i.value ∙ ap (resumed g fs) e ∙ sym (resumed-later g h sound grows depth fs (Good z) i.waits) ∙ r

    pub evaluating-handed : (fs' : List Frame) (b : ℕ) → HandsTo fs fs' z b → IsEvaluating whole h depth b fs'
    evaluating-handed fs' b t =
        let v = t.waits h depth (wait-later g h sound grows depth fs i.waits) in
        record { value = value-now (resumed h fs' (value_of (read h b names))) (t.value h); valid = v.0; waits = v.1 }

    pub handed-falls : (fs' : List Frame) (b : ℕ) → HandsTo fs fs' z b → left_of h b fs' < left_of g node fs
    handed-falls fs' b t = let less = t.less h in let same = waiting-same in let some = size-positive (read g node names) in omega (arith, less, same, some)

    pub evaluating-stopped : (stop : UnifyStop) → ((k : Graph) → StopsBy (resumed k fs (Good z)) stop) → StopsBy whole stop
    evaluating-stopped stop s = subst (λ (j : Judged ℤ). StopsBy j stop) (sym (value-now (resumed h fs (Good z)) refl)) (s h)

  pub evaluating-wrong : (e : Fault) → value_of (read g node names) ≡ Bad e → whole ≡ Bad e
  evaluating-wrong e w = i.value ∙ ap (resumed g fs) w ∙ fault-through g fs e
