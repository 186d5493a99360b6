-- SPDX-License-Identifier: MPL-2.0
pub mod Written
pub mod Answers
pub mod Header
pub mod Payload
