-- SPDX-License-Identifier: MPL-2.0
pub mod Answers
pub mod Opening
pub mod Host
pub mod Hear
pub mod Step
pub mod Calls
