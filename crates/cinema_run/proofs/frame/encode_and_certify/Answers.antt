use Rattle.std.proofs.Common.{◌≡◌, ◌↔◌, ◌++◌, ◌∙◌, ℕ, List, Result, Ok, Err, ap, refl, sym, subst}
use Rattle.std.specs.Result.{IsErrAnd}
use Rattle.cine_nums.specs.declared.budget.Budget.{Budget}
use Rattle.pnm_frames.specs.Picture.{Picture}
use Rattle.pnm_frames.specs.View.{picture_of}
use Rattle.cert_text.specs.declared.cert_line.CertLine.{CertLine}
use Rattle.frame_encoder.specs.declared.frame.Encoded.{Encoded}
use Rattle.frame_encoder.specs.declared.order.EncodeOrder.{EncodeOrder}
use Rattle.frame_encoder.specs.declared.refusal.EncodeRefusal.{EncodeRefusal}
use Rattle.frame_encoder.specs.declared.refusal.EncodeRefusal.TheVariants.{LimitTooSmall}
use Rattle.frame_encoder.specs.Encoded.{Encoding, Encodes, encoding_of}
use Rattle.frame_encoder.specs.Refused.{IsTooSmall}
use Rattle.cinema_run.specs.ReportLine.{IsCertOf}
use Rattle.cinema_run.specs.Right.{accepted, IsAccepted}
use Rattle.cinema_run.proofs.frame.encode_and_certify.Goals as goal

is_accepted : (order : EncodeOrder) (suffix name : List ℕ) (p : Picture) (e : Encoding)
    (says : CertLine) → ((budget : Budget) (needed : ℕ) → ¬ IsTooSmall order p budget needed) →
    Encodes order p e → IsCertOf order name p e says →
    IsAccepted order suffix name p (accepted (name ++ suffix) e.bytes says)
is_accepted order suffix name p e says fits encodes certifies = record {
  fits = fits;
  encoding = e;
  encodes = encodes;
  says = says;
  certifies = certifies;
  is = refl;
}

-- no limit is too small for a picture that was encoded
all_fit : (order : EncodeOrder) (p : Picture) (result : Result Encoded EncodeRefusal)
    (made : Encoded) → result ≡ Ok made →
    ((budget : Budget) (needed : ℕ) →
    (result ≡ Err (LimitTooSmall budget needed)) ↔ IsTooSmall order p budget needed) →
    (budget : Budget) (needed : ℕ) → ¬ IsTooSmall order p budget needed
all_fit order p result made is exactly budget needed small =
    let clash : Ok made ≡ Err (LimitTooSmall budget needed) =
    sym is ∙ (exactly budget needed).1 small in absurd cc

pub returns-clause-accepted : goal.returns-clause-accepted
returns-clause-accepted c = λ suffix.
    subst (λ (bytes : List ℕ). IsAccepted c.args.order.now suffix c.args.name.now
    (picture_of c.args.frame.now)
    (accepted (c.args.name.now ++ suffix) bytes c.in_ok-bytes.says))
    (sym c.in_ok-bytes.ensures.bytes)
    (is_accepted c.args.order.now suffix c.args.name.now (picture_of c.args.frame.now)
    (encoding_of c.in_ok-made.made) c.in_ok-bytes.says
    (all_fit c.args.order.now (picture_of c.args.frame.now) c.encode.result c.in_ok-made.made
    c.in_ok-made.was c.encode.ensures.too_small) c.in_ok-made.ensures.encodes
    c.in_ok-bytes.ensures.says)

-- what holds of each error holds of this one
of_error : {T : Type 0} (P : EncodeRefusal → Type 0) (result : Result T EncodeRefusal)
    (e : EncodeRefusal) → result ≡ Err e → IsErrAnd result P → P e
of_error {T} P result e is holds =
    subst (λ (r : Result T EncodeRefusal). IsErrAnd r P) is holds

pub returns-in_err-made-clause-too_small : goal.returns-in_err-made-clause-too_small
returns-in_err-made-clause-too_small c = λ budget needed is.
    let same : LimitTooSmall budget needed ≡ c.in_err-made.field-0.0 =
    of_error _ c.from_residual.result (LimitTooSmall budget needed) is c.from_residual.ensures.1 in
    (c.encode.ensures.too_small budget needed).0 (c.in_err-made.was ∙ ap Err (sym same))
