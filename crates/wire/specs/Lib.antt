-- SPDX-License-Identifier: MPL-2.0
pub mod Refusals
pub mod Chain
pub mod Fields
pub mod Reader
pub mod Answers
pub mod Examples
