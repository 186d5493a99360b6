-- SPDX-License-Identifier: MPL-2.0
pub mod Reading
pub mod Answers
pub mod Handed
pub mod Writing
pub mod Widths
