use Rattle.std.proofs.Common.{arith, rules, ◌≡◌, ◌≤◌, ℕ, List, ◌++◌, length, true, ap, ◌∙◌, subst, codes, string_bytes}
use Rattle.std.specs.Str.{is_utf8}
use Rattle.std.proofs.lemmas.Str.{IsUtf8-string_bytes, is_utf8-from_IsUtf8}
use Rattle.step_names.specs.Written.{thread_text}
use Rattle.command_lines.specs.Grammar as grammar
use Rattle.command_lines.specs.Grammar.{command_of}
use Rattle.command_lines.proofs.ReadBack.{line_is_read}
use Rattle.command_lines.proofs.ThreadLines.{step_one_line}
use Rattle.command_lines.proofs.writing.step_line.Goals as goal

pub returns : goal.returns
returns c =
    let t = c.args.thread.now in
    let line = string_bytes c.write_to.new.out in
    let is : line ≡ codes "step " ++ thread_text t =
    c.in_ok-write_to.ensures.ok ∙ ap (λ (front : List ℕ). front ++ thread_text t) (c.in_ok-push_str.ensures.bytes ∙ ap (λ (front : List ℕ). front ++ codes "step ") c.in_ok-line.ensures.bytes) in
    let utf8 = subst (λ (bytes : List ℕ). is_utf8 bytes ≡ true) is (is_utf8-from_IsUtf8 line (IsUtf8-string_bytes c.write_to.new.out)) in
    let len : c.text_len.result ≡ length (thread_text t) = search rules in
    let short : length (thread_text t) ≤ 746 = omega (arith, len, c.text_len.ensures.bound) in
    ap command_of is ∙ line_is_read (grammar.step t) c.text_len.ensures.bounds utf8 (step_one_line t c.text_len.ensures.bounds short)
