-- The rules that a job is held to, each said once: every condition, promise and theorem on steps, units and
-- residuals cites these. A job runs on its right-hand sides divided by r^s, exactly; document 02's s is
-- called the scale of the job here, and the crate `scale` says which s a job has.
use Rattle.std.specs.Prelude.{Bool, ◌||◌, ℕ, zero, suc, ◌+◌, ◌*◌, ◌^◌, ◌≤◌, ltb}
use Rattle.job.specs.{Header.digit_bits, Header.radix, Header.unit, Header.past_60_bits, declared.Header.Header}

-- the last step of a job of scale s: one more than the m digits that its frame asks for, and s more
abbrev pub last_step : Header → ℕ → ℕ
last_step h s = h.m + 1 + s

-- the largest scale that a job may have: 2 in radix 2, and 1 in every other
abbrev pub most_scale : (code : ℕ) → ℕ
most_scale zero = 2
most_scale (suc code) = 1

-- the most steps that a trace may hold, if 60 bits hold them: the last step of a job of scale 2, as a trace
-- does not tell its job's scale
abbrev pub trace_steps : Header → ℕ
trace_steps h = last_step h 2

-- 15: (m + 1 + s) × log2(r) above 60
abbrev pub scaled_steps_out_of_range : Header → ℕ → Bool
scaled_steps_out_of_range h s = past_60_bits h.code (last_step h s)

-- under 24: s above its limit, or the steps above 15's
abbrev pub scale_out_of_range : Header → ℕ → Bool
scale_out_of_range h s = ltb (most_scale h.code) s || scaled_steps_out_of_range h s

-- the same limits as facts
pub record ScaleLimits (h : Header) (s : ℕ) : Type 0 where
  pub scale_most : s ≤ most_scale h.code
  pub last_most : last_step h s * digit_bits h.code ≤ 60

-- how many units of the residuals inside a state make one of the frame's numbers: r^s
abbrev pub scale_factor : Header → ℕ → ℕ
scale_factor h s = radix h.code ^ s

-- the residuals inside a state are in units of 1 / inner_unit, which is 2^f × r^s
abbrev pub inner_unit : Header → ℕ → ℕ
inner_unit h s = unit h * scale_factor h s

-- the residual bound: after every step |z| is at most bound_over / bound_under, which is 17/32: half a unit,
-- and 1/32 for what the estimate leaves out of w
abbrev pub bound_over : ℕ
bound_over = 17

abbrev pub bound_under : ℕ
bound_under = 32
